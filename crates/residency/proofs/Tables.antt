-- Tables are no more than mapped pages need.
use Rattle.residency.proofs.{Counts.{count-none, count-le, count-most, sum-le, sum-none}, Names.{user_end, top_level, table_entries, tables_of, tables_below, any_below, count_below, sum_below, View, two_modes, div-add-mod, mod-lt}}
use Rattle.residency.proofs.Names.{one-le-pow, ◌≡◌, ℕ, zero, suc, inl, inr, ◌+◌, ◌-◌, ◌*◌, ◌/◌, ◌%◌, ◌^◌, ◌<◌, ◌≤◌, Bool, true, false, ◌&&◌, if◌then◌else◌, Option, Some, is_some, refl, sym, ap, ◌∙◌, subst, arith, cases_Bool, false≢true}
use Rattle.residency.{proofs.{Names.{and_parts, same_Some, fields_same, Role, Table, FrameTable, frame_count, role_of, Way, entry_at, frame_of, index_of, any-at}, Pigeon.{Code, code, is_inside, passing, pigeons}}, specs.Capacity.{is_table}}
use Rattle.residency.specs.{Capacity.{table_frames, tables_over}, Parts.{IsUsed, AsRoot, OnWay}, Picture.{Picture}}
pub use Rattle.residency.proofs.Counts.{sum-below}

-- a table's code: its process, its level, and which row of pages it is over; the root is alone at its level
abbrev width : ℕ → ℕ → ℕ
width mode zero = 1
width mode (suc k) = user_end mode / table_entries ^ suc k

-- whether mapped pages need it
abbrev needed_at : (ℕ → Bool) → (ℕ → ℕ → Option View) → ℕ → ℕ → ℕ → Bool
needed_at live views p zero i = live p
needed_at live views p (suc k) i = live p && any_below (λ j. is_some (views p (table_entries ^ suc k * i + j))) (table_entries ^ suc k)

abbrev is_needed : (ℕ → Bool) → (ℕ → ℕ → Option View) → Code → Bool
is_needed live views x = needed_at live views x.group x.row x.place

needed_some : (live : ℕ → Bool) (views : ℕ → ℕ → Option View) (p k i : ℕ) → 1 ≤ k → live p ≡ true → any_below (λ j. is_some (views p (table_entries ^ k * i + j))) (table_entries ^ k) ≡ true
    → needed_at live views p k i ≡ true
needed_some live views p zero i some lives any = absurd (omega arith)
needed_some live views p (suc k) i some lives any = rw (lives, any) refl

-- they are as many as the tables that the processes may have
needed_up_to : (mode : ℕ) (live : ℕ → Bool) (views : ℕ → ℕ → Option View) (pid level : ℕ)
    → sum_below (λ k. count_below (λ i. needed_at live views pid k i) (width mode k)) (suc level) ≤ 1 + tables_below mode (views pid) level
unfolding sum_below
needed_up_to mode live views pid zero = let one = count-most (λ i. live pid) 1 in omega (arith, one)
needed_up_to mode live views pid (suc k) =
    let here = count-le (λ i. needed_at live views pid (suc k) i) (λ i. any_below (λ j. is_some (views pid (table_entries ^ suc k * i + j))) (table_entries ^ suc k))
    (width mode (suc k)) (λ i h. (and_parts (live pid) _ h).1) in
    omega (arith, here, needed_up_to mode live views pid k)

none_needed : (live : ℕ → Bool) (views : ℕ → ℕ → Option View) (pid k i : ℕ) → live pid ≡ false → needed_at live views pid k i ≡ false
none_needed live views pid zero i dead = dead
none_needed live views pid (suc k) i dead = rw dead refl

needed_are : (mode : ℕ) (live : ℕ → Bool) (views : ℕ → ℕ → Option View) → passing 65 (λ pid. suc (top_level mode)) (λ pid k. width mode k) (is_needed live views) ≤ tables_over mode live views
unfolding passing tables_over
needed_are mode live views =
    let levels : ℕ → ℕ = λ pid. sum_below (λ k. count_below (λ i. needed_at live views pid k i) (width mode k)) (suc (top_level mode)) in
    sum-le levels (λ pid. if live pid then tables_of mode (views pid) else 0) 65 (λ pid. elim (cases_Bool (live pid)) [
      | inl t ↦ (let a = needed_up_to mode live views pid (top_level mode) in rw t (omega (arith, a)))
      | inr f ↦ (
          let a = sum-none (λ k. count_below (λ i. needed_at live views pid k i) (width mode k)) (suc (top_level mode))
          (λ k. count-none (λ i. needed_at live views pid k i) (width mode k) (λ i. none_needed live views pid k i f)) in
          rw f (omega (arith, a)))
    ])

-- ways with equal fields lead to one table
one_table : (t : FrameTable) (top r page page' d n n' : ℕ) → d ≤ top → ((k : ℕ) → k < d → index_of page (top - k) ≡ index_of page' (top - k))
    → Way t top r page d n → Way t top r page' d n' → n ≡ n'
one_table t top r page page' zero n n' le same w w' = w ∙ sym w'
one_table t top r page page' (suc d) n n' le same w w' =
    let m : w.0 ≡ w'.0 = one_table t top r page page' d w.0 w'.0 (omega (arith, le)) (λ k less. same k (omega (arith, less))) w.1 w'.1 in
    sym w.2.target ∙ ap (λ x. frame_of (entry_at t x (index_of page (top - d)))) m ∙ ap (λ x. frame_of (entry_at t w'.0 x)) (same d (omega arith)) ∙ w'.2.target

row_three : (k page : ℕ) → suc k ≤ 2 → page < 2 ^ 26 → page / 512 ^ suc k < 2 ^ 26 / 512 ^ suc k
row_three zero page most low = let e : page / 512 < 131072 = omega (arith, low) in e
row_three (suc zero) page most low = let e : page / 262144 < 256 = omega (arith, low) in e
row_three (suc (suc k)) page most low = absurd (omega arith)

row_four : (k page : ℕ) → suc k ≤ 3 → page < 2 ^ 35 → page / 512 ^ suc k < 2 ^ 35 / 512 ^ suc k
row_four zero page most low = let e : page / 512 < 67108864 = omega (arith, low) in e
row_four (suc zero) page most low = let e : page / 262144 < 131072 = omega (arith, low) in e
row_four (suc (suc zero)) page most low = let e : page / 134217728 < 256 = omega (arith, low) in e
row_four (suc (suc (suc k))) page most low = absurd (omega arith)

-- a user page lies in a row of user pages
row_inside : (mode k page : ℕ) → 1 ≤ k → k ≤ top_level mode → page < user_end mode → page / 512 ^ k < width mode k
row_inside mode zero page some most low = absurd (omega arith)
row_inside mode (suc k) page some most low = elim (two_modes mode) [
  | inl three ↦ rw three.1 (row_three k page (omega (arith, most, three.0)) (omega (arith, low, three.1)))
  | inr four ↦ rw four.1 (row_four k page (omega (arith, most, four.0)) (omega (arith, low, four.1)))
]

module _ {mode : ℕ} (c : Picture mode) (live : ℕ → Bool) (views : ℕ → ℕ → Option View) (numbers : (pid r : ℕ) → c.root pid ≡ Some r → pid < 65)
    (lives : (pid r : ℕ) → c.root pid ≡ Some r → live pid ≡ true)
    (user : (pid page : ℕ) → is_some (views pid page) ≡ true → page < user_end mode) where
  abbrev t : FrameTable
  t = c.frames

  abbrev root : ℕ → Option ℕ
  root = c.root

  abbrev mapped : ℕ → ℕ → Type 0
  mapped pid page = is_some (views pid page) ≡ true

  -- the code of a used table
  spot_of : (n : ℕ) → IsUsed c mapped n → Code
  spot_of n (AsRoot pid is) = code pid 0 0
  spot_of n (OnWay pid r page is mapped_here below) = code pid (top_level mode - below.0) (page / table_entries ^ (top_level mode - below.0))

  inner : (n : ℕ) (u : IsUsed c mapped n) → is_inside 65 (λ pid. suc (top_level mode)) (λ pid k. width mode k) (spot_of n u)
  unfolding spot_of
  inner n (AsRoot pid is) = (numbers pid n is, omega arith, omega arith)
  inner n (OnWay pid r page is here (depth, below, way)) =
      let most : top_level mode - depth ≤ top_level mode = omega arith in
      (numbers pid r is, omega arith, row_inside mode (top_level mode - depth) page (omega (arith, below)) most (user pid page here))

  needed : (n : ℕ) (u : IsUsed c mapped n) → is_needed live views (spot_of n u) ≡ true
  unfolding spot_of
  needed n (AsRoot pid is) = lives pid n is
  needed n (OnWay pid r page is here (depth, below, way)) =
      let some : 0 < table_entries ^ (top_level mode - depth) = one-le-pow (top_level mode - depth) 512 (omega arith) in
      needed_some live views pid (top_level mode - depth) (page / table_entries ^ (top_level mode - depth)) (omega (arith, below)) (lives pid r is)
      (any-at (λ k. is_some (views pid (table_entries ^ (top_level mode - depth) * (page / table_entries ^ (top_level mode - depth)) + k)))
      (table_entries ^ (top_level mode - depth)) (page % table_entries ^ (top_level mode - depth)) (mod-lt page some)
      (ap (λ x. is_some (views pid x)) (div-add-mod page (table_entries ^ (top_level mode - depth))) ∙ here))

  one_root : (pid pid' r r' : ℕ) → pid ≡ pid' → root pid ≡ Some r → root pid' ≡ Some r' → r ≡ r'
  one_root pid pid' r r' e is is' = same_Some r r' (sym is ∙ ap root e ∙ is')

  no_root : (depth pid pid' i : ℕ) → depth < top_level mode → code pid 0 0 ≡ code pid' (top_level mode - depth) i → ⊥
  no_root depth pid pid' i below e = let level : 0 ≡ top_level mode - depth = ap (λ (x : Code). x.row) e in omega (arith, level, below)

  apart : (n n' : ℕ) (u : IsUsed c mapped n) (u' : IsUsed c mapped n') → spot_of n u ≡ spot_of n' u' → n ≡ n'
  unfolding spot_of
  apart n n' (AsRoot pid is) (AsRoot pid' is') e = one_root pid pid' n n' (ap (λ (x : Code). x.group) e) is is'
  apart n n' (AsRoot pid is) (OnWay pid' r' page' is' here' (depth', below', way')) e = absurd (no_root depth' pid pid' _ below' e)
  apart n n' (OnWay pid r page is here (depth, below, way)) (AsRoot pid' is') e = absurd (no_root depth pid' pid _ below (sym e))
  apart n n' (OnWay pid r page is here (depth, below, way)) (OnWay pid' r' page' is' here' (depth', below', way')) e =
      let one = one_root pid pid' r r' (ap (λ (x : Code). x.group) e) is is' in
      let power : top_level mode - depth ≡ top_level mode - depth' = ap (λ (x : Code). x.row) e in
      let same : depth ≡ depth' = omega (arith, power, below, below') in
      let P : ℕ → Type 0 = λ x. Way t (top_level mode) x page (suc depth) n in
      let D : ℕ → Type 0 = λ x. Way t (top_level mode) r' page (suc x) n in
      let row = ap (λ k. page / table_entries ^ k) (sym power) ∙ ap (λ (x : Code). x.place) e in
      one_table t (top_level mode) r' page page' (suc depth') n n' (omega (arith, below'))
      (λ k less. fields_same page page' (top_level mode - depth') (top_level mode - k) (omega (arith, less)) row)
      (subst D same (subst P one way)) way'

  is_table-is : (r : Role) → is_table r ≡ true → r ≡ Table
  is_table-is Table e = refl
  is_table-is r e = absurd (false≢true e)

  -- where every table is used, they are no more than mapped pages need
  pub tables_counted : ((n : ℕ) → role_of t n ≡ Table → IsUsed c mapped n) → table_frames t ≤ tables_over mode live views
  unfolding table_frames
  tables_counted used =
      let u : (k : ℕ) → is_table (role_of t k) ≡ true → IsUsed c mapped k = λ k h. used k (is_table-is (role_of t k) h) in
      let most = pigeons 65 (λ pid. suc (top_level mode)) (λ pid k. width mode k) (λ n. is_table (role_of t n)) (λ k h. spot_of k (u k h)) (frame_count t) (is_needed live views)
      (λ k h. inner k (u k h)) (λ k h below. needed k (u k h)) (λ j k h i lt lt' e. apart j k (u j h) (u k i) e) in
      omega (arith, most, needed_are mode live views)
