-- Why there was no copy of a process, told by the processes before the call.
use Rattle.lifecycle.proofs.Names.{◌≡◌, ◌≢◌, ℕ, zero, suc, inl, inr, ◌+◌, ◌*◌, ◌/◌, ◌<◌, ◌^◌, Bool, true, false, if◌then◌else◌, Option, Some, None, List, refl, sym, ap, ◌∙◌, subst, arith, fun_ext, cases_eq, used_rows, tables_below}
use Rattle.lifecycle.proofs.Names.{tables_of, has_own, object_page_limit, top_level, table_entries, user_end, object_limit, File, Object, any_below, count_below, sum_below, View, Attr, Stall, NoFrames, NoSwap, PageKey, Picture, is_live}
use Rattle.lifecycle.{proofs.Names.{entry, view, view_of, own_in, IsShort, tables_over, copies_over, touched_file, stored_object, count-same, sum-below, KeepsRoom}, specs.Changes.{KeepsProcesses, IsShortToFork}}
use Rattle.std.proofs.Common.{is_some}

-- one summand is that much more
sum-more : (f g : ℕ → ℕ) (x d n : ℕ) → x < n → f x ≡ g x + d → ((k : ℕ) → k ≢ x → f k ≡ g k) → sum_below f n ≡ sum_below g n + d
unfolding sum_below
sum-more f g x d zero below here others = absurd (omega arith)
sum-more f g x d (suc n) below here others = elim (cases_eq n x) [
  | inl e ↦ (
      let here_n : f n ≡ g n + d = subst (λ (y : ℕ). f y ≡ g y + d) (sym e) here in
      let rest : sum_below f n ≡ sum_below g n = sum-below f g x n (omega (arith, e)) others in
      omega (arith, here_n, rest))
  | inr ne ↦ (omega (arith, sum-more f g x d n (omega (arith, below, ne)) here others, others n ne))
]

-- the tables of a process are told by which pages are mapped
abbrev rows_by : (ℕ → Bool) → ℕ → ℕ → ℕ
rows_by mapped pages rows = count_below (λ row. any_below (λ i. mapped (pages * row + i)) pages) rows

rows_alike : (a b : ℕ → Option View) (pages rows : ℕ) → ((page : ℕ) → is_some (a page) ≡ is_some (b page)) → used_rows a pages rows ≡ used_rows b pages rows
rows_alike a b pages rows same = let e : (λ page. is_some (a page)) ≡ (λ page. is_some (b page)) = fun_ext same in ap (λ (m : ℕ → Bool). rows_by m pages rows) e

module _ (mode : ℕ) where
  below_alike : (a b : ℕ → Option View) (level : ℕ) → ((page : ℕ) → is_some (a page) ≡ is_some (b page)) → tables_below mode a level ≡ tables_below mode b level
  below_alike a b zero same = refl
  below_alike a b (suc level) same = omega (arith, rows_alike a b (table_entries ^ suc level) (user_end mode / table_entries ^ suc level) same, below_alike a b level same)

  pub tables_alike : (a b : ℕ → Option View) → ((page : ℕ) → is_some (a page) ≡ is_some (b page)) → tables_of mode a ≡ tables_of mode b
  tables_alike a b same = let below = below_alike a b (top_level mode) same in omega (arith, below)

  -- the tables of all processes with one more
  tables_more : (live live' : ℕ → Bool) (views views' : ℕ → ℕ → Option View) (pid d : ℕ) → pid < 65 → live pid ≡ false → live' pid ≡ true → tables_of mode (views' pid) ≡ d
      → ((q : ℕ) → q ≢ pid → live' q ≡ live q) → ((q page : ℕ) → q ≢ pid → views' q page ≡ views q page) → tables_over mode live' views' ≡ tables_over mode live views + d
  unfolding tables_over
  tables_more live live' views views' pid d below dead lives here others same =
      sum-more (λ q. if live' q then tables_of mode (views' q) else 0) (λ q. if live q then tables_of mode (views q) else 0) pid d 65 below
      (let z : d ≡ 0 + d = omega arith in rw (dead, lives) (here ∙ z))
      (λ q ne. ap (λ b. if b then tables_of mode (views' q) else 0) (others q ne) ∙ ap (λ v. if live q then tables_of mode v else 0) (fun_ext (λ page. same q page ne)))

  -- own copies and touched pages are told by which pages have one
  copies_alike : (views views' : ℕ → ℕ → Option View) (touched touched' stored stored' : ℕ → ℕ → Bool) → ((q page : ℕ) → has_own (views' q page) ≡ has_own (views q page))
      → ((f k : ℕ) → touched' f k ≡ touched f k) → ((o k : ℕ) → stored' o k ≡ stored o k) → copies_over mode views' touched' stored' ≡ copies_over mode views touched stored
  unfolding copies_over
  copies_alike views views' touched touched' stored stored' same same' same'' =
      let a = sum-below (λ q. count_below (λ page. has_own (views' q page)) (user_end mode)) (λ q. count_below (λ page. has_own (views q page)) (user_end mode)) 65 65 (omega arith)
      (λ q ne. count-same (λ page. has_own (views' q page)) (λ page. has_own (views q page)) (user_end mode) (same q)) in
      let b = sum-below (λ f. count_below (touched' f) (2 ^ 30)) (λ f. count_below (touched f) (2 ^ 30)) 4096 4096 (omega arith)
      (λ f ne. count-same (touched' f) (touched f) (2 ^ 30) (same' f)) in
      let c = sum-below (λ o. count_below (stored' o) object_page_limit) (λ o. count_below (stored o) object_page_limit) object_limit object_limit (omega arith)
      (λ o ne. count-same (stored' o) (stored o) object_page_limit (same'' o)) in
      omega (arith, a, b, c)

-- memory is short of less than a copy of a process wants
module _ {mode : ℕ} where
  pub short_before : (old new : Picture mode) (parent : ℕ) (stall : Stall) → KeepsProcesses old new → KeepsRoom old new → ((p : PageKey) → new.touched p ≡ old.touched p)
      → IsShort new stall → IsShortToFork old parent stall
  unfolding IsShort IsShortToFork
  short_before old new parent NoFrames keeps room touched short =
      let live : is_live new ≡ is_live old = fun_ext keeps.live in
      let views : view new ≡ view old = fun_ext (λ q. fun_ext (keeps.views q)) in
      let same : tables_over mode (is_live new) (view new) ≡ tables_over mode (is_live old) (view old) = ap (λ l. tables_over mode l (view new)) live ∙ ap (tables_over mode (is_live old)) views in
      omega (arith, room.frames, same, short)
  short_before old new parent NoSwap keeps room touched short =
      let same = copies_alike mode (view old) (view new) (touched_file old) (touched_file new) (stored_object old) (stored_object new) (λ q page. ap has_own (keeps.views q page)) (λ f k. touched (File (record { file = f; page = k }))) (λ o k. touched (Object (record { object = o; page = k }))) in
      omega (arith, room.slots, same, short)
  short_before old new parent stall keeps room touched short = tt

some_view : (own : Option (List ℕ)) (o : Option Attr) → is_some (view_of own o) ≡ is_some o
some_view own None = refl
some_view own (Some a) = refl

pub some_mapped : {mode : ℕ} (c : Picture mode) (pid page : ℕ) → is_some (view c pid page) ≡ is_some (c.at pid page)
unfolding view
some_mapped c pid page = some_view (own_in c.frames c.slots (entry c pid page)) (c.at pid page)

-- A process came whose pages are mapped as those of another, none with a copy of its own. Memory is short of what all need then.
module _ {mode : ℕ} (old new : Picture mode) (parent child : ℕ) (apart : parent ≢ child) (below : child < 65) (dead : is_live old child ≡ false) (lives : is_live new child ≡ true)
    (others_live : (q : ℕ) → q ≢ child → is_live new q ≡ is_live old q) (others : (q page : ℕ) → q ≢ child → view new q page ≡ view old q page)
    (same : (page : ℕ) → new.at child page ≡ new.at parent page) (none : (page : ℕ) → has_own (view new child page) ≡ false)
    (was_none : (page : ℕ) → has_own (view old child page) ≡ false) (room : KeepsRoom old new) (touched : (p : PageKey) → new.touched p ≡ old.touched p) where
  tables_here : tables_of mode (view new child) ≡ tables_of mode (view old parent)
  tables_here = tables_alike mode (view new child) (view old parent) (λ page.
      some_mapped new child page ∙ ap (λ o. is_some o) (same page) ∙ sym (some_mapped new parent page) ∙ ap (λ o. is_some o) (others parent page apart))

  owned : (q page : ℕ) → has_own (view new q page) ≡ has_own (view old q page)
  owned q page = elim (cases_eq q child) [
    | inl is ↦ subst (λ (x : ℕ). has_own (view new x page) ≡ has_own (view old x page)) (sym is) (none page ∙ sym (was_none page))
    | inr ne ↦ ap has_own (others q page ne)
  ]

  pub short_alike : (stall : Stall) → IsShort new stall → IsShortToFork old parent stall
  unfolding IsShort IsShortToFork
  short_alike NoFrames short =
      let all = tables_more mode (is_live old) (is_live new) (view old) (view new) child (tables_of mode (view old parent)) below dead lives tables_here others_live others in
      omega (arith, room.frames, all, short)
  short_alike NoSwap short =
      let all = copies_alike mode (view old) (view new) (touched_file old) (touched_file new) (stored_object old) (stored_object new) owned (λ f k. touched (File (record { file = f; page = k }))) (λ o k. touched (Object (record { object = o; page = k }))) in
      omega (arith, room.slots, all, short)
  short_alike stall short = tt
