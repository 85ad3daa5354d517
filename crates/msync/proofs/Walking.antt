-- What an msync takes behind a row of pages, run by run.
use Rattle.msync.proofs.Names.{ℕ, ◌+◌, ◌-◌, ◌≡◌, ◌<◌, ◌≤◌, ◌==◌, ◌&&◌, ◌⊎◌, ⊎_elim, inl, inr, Bool, true, false, leb, ltb, nat_lt, List, Option, None, sym, ap, ◌∙◌, arith, cases_lt, and_parts, and_from, false≢true, nat_tests, Run, IsNextRun}
use Rattle.msync.proofs.Names.{FilePage, Attr, Backing, Shared, backing_after, is_shared_page, any_below, any-at, any-where}
use Rattle.std.proofs.{Common.{◌||◌, IfSome, subst}, lemmas.Bool.{or_cases, or_left, or_right}}
use Rattle.vm_types.specs.{Attributes.{backing_fits}, Msync.{is_shared_of}, Rows.{IsUserMap}, declared.region.Backing.TheVariants.{Anon}}
use Rattle.msync.{specs.Choice.{stands_behind, shows_behind, is_taken_behind, shares_page, shares_file, is_shared_in, is_whole, is_chosen, Appends, OverflowsRow}, proofs.Appending.{nothing, in_turn, renamed, over}}

-- whether a file page is shared by a page that is this, or is of a file of another length of which that is a shared page
abbrev seen : (ℕ → Bool) → Option Attr → FilePage → Bool
seen resized o p = shares_page o p || (resized p.file && shares_file o p.file)

abbrev seen_on : (ℕ → Bool) → Backing → FilePage → Bool
seen_on resized b p = is_shared_page b p.file p.page || (resized p.file && is_shared_of b p.file)

-- a page of a row that has a touched page of a file taken
chosen_at : (touched : FilePage → Bool) (resized : ℕ → Bool) (map : ℕ → Option Attr) (first n k : ℕ) (p : FilePage) → touched p ≡ true → k < n → seen resized (map (first + k)) p ≡ true
    → is_chosen touched resized map first n p ≡ true
chosen_at touched resized map first n k p e less is =
    and_from (touched p) (is_shared_in map first n p || is_whole resized map first n p.file) e
    (⊎_elim
    (λ (shares : shares_page (map (first + k)) p ≡ true). or_left (is_shared_in map first n p) (is_whole resized map first n p.file) (any-at (λ i. shares_page (map (first + i)) p) n k less shares))
    (λ (whole : (resized p.file && shares_file (map (first + k)) p.file) ≡ true).
    let parts = and_parts (resized p.file) (shares_file (map (first + k)) p.file) whole in
    or_right (is_shared_in map first n p) (is_whole resized map first n p.file)
    (and_from (resized p.file) (any_below (λ i. shares_file (map (first + i)) p.file) n) parts.0 (any-at (λ i. shares_file (map (first + i)) p.file) n k less parts.1)))
    (or_cases (shares_page (map (first + k)) p) (resized p.file && shares_file (map (first + k)) p.file) is))

where_chosen : (touched : FilePage → Bool) (resized : ℕ → Bool) (map : ℕ → Option Attr) (first n : ℕ) (p : FilePage) → is_chosen touched resized map first n p ≡ true
    → (touched p ≡ true) × ((k : ℕ) × (k < n) × (seen resized (map (first + k)) p ≡ true))
where_chosen touched resized map first n p e =
    let parts = and_parts (touched p) (is_shared_in map first n p || is_whole resized map first n p.file) e in (
      parts.0,
      ⊎_elim
          (λ (shares : is_shared_in map first n p ≡ true).
          let r = any-where (λ i. shares_page (map (first + i)) p) n shares in
          (r.0, r.1, or_left (shares_page (map (first + r.0)) p) (resized p.file && shares_file (map (first + r.0)) p.file) r.2))
          (λ (whole : is_whole resized map first n p.file ≡ true).
          let also = and_parts (resized p.file) (any_below (λ i. shares_file (map (first + i)) p.file) n) whole in
          let r = any-where (λ i. shares_file (map (first + i)) p.file) n also.1 in (
            r.0,
            r.1,
            or_right (shares_page (map (first + r.0)) p) (resized p.file && shares_file (map (first + r.0)) p.file)
                (and_from (resized p.file) (shares_file (map (first + r.0)) p.file) also.0 r.2),
          ))
          (or_cases (is_shared_in map first n p) (is_whole resized map first n p.file) parts.1),
    )

-- a page of a longer row
chosen_longer : (touched : FilePage → Bool) (resized : ℕ → Bool) (map : ℕ → Option Attr) (first a b : ℕ) (p : FilePage) → a ≤ b → is_chosen touched resized map first a p ≡ true
    → is_chosen touched resized map first b p ≡ true
chosen_longer touched resized map first a b p order e =
    let r = where_chosen touched resized map first a p e in
    chosen_at touched resized map first b r.1.0 p r.0 (omega (arith, r.1.1)) r.1.2

-- Behind pages that aren't shared ones of a file is nothing.
nothing_there : (resized some : Bool) → (resized && (some && false)) ≡ true → ⊥
nothing_there resized some e = false≢true (and_parts some false (and_parts resized (some && false) e).1).1

nothing_on : (resized : Bool) → (resized && false) ≡ true → ⊥
nothing_on resized e = false≢true (and_parts resized false e).1

-- which page of a file stands behind the page so many pages further on
stands_at : (q : FilePage) (n : ℕ) (p : FilePage) → stands_behind (Shared q) n p ≡ true → (i : ℕ) × (i < n) × (is_shared_page (backing_after (Shared q) i) p.file p.page ≡ true)
stands_at q n p e =
    let parts = and_parts (p.file == q.file) (leb q.page p.page && ltb p.page (q.page + n)) e in
    let file = parts.0 in
    let row = parts.1 in
    let low : q.page ≤ p.page = grind (arith, nat_tests) in
    let high : p.page < q.page + n = grind (arith, nat_tests) in
    let i : ℕ = p.page - q.page in
    let f : (q.file == p.file) ≡ true = grind (arith, nat_tests) in
    let k : (q.page + i == p.page) ≡ true = grind (arith, nat_tests) in
    (i, omega arith, and_from (q.file == p.file) (q.page + i == p.page) f k)

at_stands : (q : FilePage) (n i : ℕ) (p : FilePage) → i < n → is_shared_page (backing_after (Shared q) i) p.file p.page ≡ true → stands_behind (Shared q) n p ≡ true
at_stands q n i p less e =
    let parts = and_parts (q.file == p.file) (q.page + i == p.page) e in
    let file = parts.0 in
    let page = parts.1 in
    let f : (p.file == q.file) ≡ true = grind (arith, nat_tests) in
    let row : (leb q.page p.page && ltb p.page (q.page + n)) ≡ true = grind (arith, nat_tests) in
    and_from (p.file == q.file) (leb q.page p.page && ltb p.page (q.page + n)) f row

-- which of some pages have a file page taken
seen_at : (resized : ℕ → Bool) (b : Backing) (n : ℕ) (p : FilePage) → (stands_behind b n p || (resized p.file && shows_behind b n p.file)) ≡ true
    → (i : ℕ) × (i < n) × (seen_on resized (backing_after b i) p ≡ true)
seen_at resized (Shared q) n p e =
    ⊎_elim
    (λ (stands : stands_behind (Shared q) n p ≡ true).
    let r = stands_at q n p stands in
    (r.0, r.1, or_left (is_shared_page (backing_after (Shared q) r.0) p.file p.page) (resized p.file && (q.file == p.file)) r.2))
    (λ (whole : (resized p.file && (nat_lt 0 n && q.file == p.file)) ≡ true).
    let a = and_parts (resized p.file) (nat_lt 0 n && q.file == p.file) whole in
    let b = and_parts (nat_lt 0 n) (q.file == p.file) a.1 in
    let more = b.0 in
    let some : 0 < n = grind (arith, nat_tests) in
    (0, some, or_right (is_shared_page (backing_after (Shared q) 0) p.file p.page) (resized p.file && (q.file == p.file)) (and_from (resized p.file) (q.file == p.file) a.0 b.1)))
    (or_cases (stands_behind (Shared q) n p) (resized p.file && shows_behind (Shared q) n p.file) e)
seen_at resized b n p e = absurd (nothing_there (resized p.file) (nat_lt 0 n) e)

at_seen : (resized : ℕ → Bool) (b : Backing) (n i : ℕ) (p : FilePage) → i < n → seen_on resized (backing_after b i) p ≡ true
    → (stands_behind b n p || (resized p.file && shows_behind b n p.file)) ≡ true
at_seen resized (Shared q) n i p less e =
    ⊎_elim
    (λ (shares : is_shared_page (backing_after (Shared q) i) p.file p.page ≡ true).
    or_left (stands_behind (Shared q) n p) (resized p.file && shows_behind (Shared q) n p.file) (at_stands q n i p less shares))
    (λ (whole : (resized p.file && (q.file == p.file)) ≡ true).
    let a = and_parts (resized p.file) (q.file == p.file) whole in
    let more : nat_lt 0 n ≡ true = grind (arith, nat_tests) in
    or_right (stands_behind (Shared q) n p) (resized p.file && shows_behind (Shared q) n p.file)
    (and_from (resized p.file) (nat_lt 0 n && q.file == p.file) a.0 (and_from (nat_lt 0 n) (q.file == p.file) more a.1)))
    (or_cases (is_shared_page (backing_after (Shared q) i) p.file p.page) (resized p.file && (q.file == p.file)) e)
at_seen resized b n i p less e = absurd (nothing_on (resized p.file) e)

-- the pages behind the part of a run have numbers
fits_front : (b : Backing) (n k : ℕ) → n ≤ k + 1 → backing_fits (backing_after b k) 1 → backing_fits b n
fits_front Anon n k less fits = tt
fits_front _ n k less fits = omega arith

pub fits_in_run : (mode : ℕ) (map : ℕ → Option Attr) (page stop : ℕ) (run : Run) → IsUserMap mode map → IsNextRun mode map page run → stop ≤ run.end
    → backing_fits run.attr.backing (stop - run.first)
fits_in_run mode map page stop run user next high =
    let last : ℕ = run.end - 1 in
    let mapped = next.mapped last (omega (arith, next.nonempty)) (omega (arith, next.nonempty)) in
    fits_front run.attr.backing (stop - run.first) (last - run.first) (omega (arith, next.nonempty))
    (subst (λ (o : Option Attr). IfSome o (λ (attr : Attr). backing_fits attr.backing 1)) mapped (user.file_pages last))

-- the part of a run that lies in the row
module _ (mode : ℕ) (touched : FilePage → Bool) (resized : ℕ → Bool) (map : ℕ → Option Attr) (first page stop : ℕ) (run : Run) (next : IsNextRun mode map page run) (from : first ≤ page) (high : stop ≤ run.end) where
  see_in : (k : ℕ) (p : FilePage) → run.first ≤ k → k < run.end → seen resized (map k) p ≡ seen_on resized (backing_after run.attr.backing (k - run.first)) p
  see_in k p low less = ap (λ (o : Option Attr). seen resized o p) (next.mapped k low less)

  abbrev behind_run : FilePage → Bool
  behind_run p = stands_behind run.attr.backing (stop - run.first) p || (resized p.file && shows_behind run.attr.backing (stop - run.first) p.file)

  run_to_row : (p : FilePage) → is_taken_behind touched resized run.attr.backing (stop - run.first) p ≡ true → is_chosen touched resized map first (stop - first) p ≡ true
  run_to_row p e =
      let parts = and_parts (touched p) (behind_run p) e in
      let r = seen_at resized run.attr.backing (stop - run.first) p parts.1 in
      let at : first + ((run.first + r.0) - first) ≡ run.first + r.0 = omega (arith, next.from) in
      let off : (run.first + r.0) - run.first ≡ r.0 = omega arith in
      chosen_at touched resized map first (stop - first) ((run.first + r.0) - first) p parts.0 (omega (arith, r.1, next.from))
      (ap (λ (k : ℕ). seen resized (map k) p) at ∙ see_in (run.first + r.0) p (omega arith) (omega (arith, r.1))
      ∙ ap (λ (i : ℕ). seen_on resized (backing_after run.attr.backing i) p) off ∙ r.2)

  row_to_run : (p : FilePage) → is_chosen touched resized map first (stop - first) p ≡ true
      → (is_chosen touched resized map first (page - first) p ≡ true) ⊎ (is_taken_behind touched resized run.attr.backing (stop - run.first) p ≡ true)
  row_to_run p e =
      let r = where_chosen touched resized map first (stop - first) p e in
      let k = first + r.1.0 in
      elim (cases_lt k page) [
        | inl early ↦ inl (chosen_at touched resized map first (page - first) r.1.0 p r.0 (omega arith) r.1.2)
        | inr late ↦ elim (cases_lt k run.first) [
          | inl hole ↦ absurd (nothing_on (resized p.file) (sym (ap (λ (o : Option Attr). seen resized o p) (next.none_before k late hole)) ∙ r.1.2))
          | inr here ↦ inr (and_from (touched p) (behind_run p) r.0
              (at_seen resized run.attr.backing (stop - run.first) (k - run.first) p (omega (arith, r.1.1)) (sym (see_in k p here (omega (arith, r.1.1))) ∙ r.1.2)))
        ]
      ]

  -- one run further
  pub walk_on : (x y z : List FilePage) (v w : ℕ) → page ≤ stop
      → Appends (is_chosen touched resized map first (page - first)) x y 0 v → Appends (is_taken_behind touched resized run.attr.backing (stop - run.first)) y z v w
      → Appends (is_chosen touched resized map first (stop - first)) x z 0 w
  walk_on x y z v w more f g =
      in_turn (is_chosen touched resized map first (page - first)) (is_taken_behind touched resized run.attr.backing (stop - run.first)) (is_chosen touched resized map first (stop - first)) x y z 0 v w
      (λ p. chosen_longer touched resized map first (page - first) (stop - first) p (omega arith)) run_to_row row_to_run f g

  pub walk_over : (end : ℕ) (x y : List FilePage) (v : ℕ) → page ≤ end → stop ≤ end
      → Appends (is_chosen touched resized map first (page - first)) x y 0 v → OverflowsRow (is_taken_behind touched resized run.attr.backing (stop - run.first)) y v
      → OverflowsRow (is_chosen touched resized map first (end - first)) x 0
  walk_over end x y v order within f g =
      over (is_chosen touched resized map first (page - first)) (is_taken_behind touched resized run.attr.backing (stop - run.first)) (is_chosen touched resized map first (end - first)) x y 0 v
      (λ p. chosen_longer touched resized map first (page - first) (end - first) p (omega arith))
      (λ p e. chosen_longer touched resized map first (stop - first) (end - first) p (omega arith) (run_to_row p e)) f g

pub walk_start : (touched : FilePage → Bool) (resized : ℕ → Bool) (map : ℕ → Option Attr) (first : ℕ) (list : List FilePage)
    → Appends (is_chosen touched resized map first (first - first)) list list 0 0
walk_start touched resized map first list =
    nothing (is_chosen touched resized map first (first - first)) list 0 (omega arith)
    (λ p e. let less = (where_chosen touched resized map first (first - first) p e).1.1 in absurd (omega arith))

-- no page is mapped any more
pub walk_end : (touched : FilePage → Bool) (resized : ℕ → Bool) (map : ℕ → Option Attr) (first page end : ℕ) (x y : List FilePage) (v : ℕ) → ((k : ℕ) → page ≤ k → map k ≡ None) → page ≤ end
    → Appends (is_chosen touched resized map first (page - first)) x y 0 v → Appends (is_chosen touched resized map first (end - first)) x y 0 v
walk_end touched resized map first page end x y v none order f =
    renamed (is_chosen touched resized map first (page - first)) (is_chosen touched resized map first (end - first)) x y 0 v
    (λ p. chosen_longer touched resized map first (page - first) (end - first) p (omega arith))
    (λ p e.
    let r = where_chosen touched resized map first (end - first) p e in
    elim (cases_lt (first + r.1.0) page) [
      | inl early ↦ chosen_at touched resized map first (page - first) r.1.0 p r.0 (omega arith) r.1.2
      | inr late ↦ absurd (nothing_on (resized p.file) (sym (ap (λ (o : Option Attr). seen resized o p) (none (first + r.1.0) late)) ∙ r.1.2))
    ])
    f
