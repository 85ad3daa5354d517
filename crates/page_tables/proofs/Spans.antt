-- The pages in the place of one entry of a table: the ways to them, and what is missing there.
use Rattle.page_tables.proofs.{Ends.{missing_of-is, last_entry-is}, Names.{◌≡◌, ◌≢◌, ℕ, zero, suc, ◌+◌, ◌-◌, ◌*◌, ◌/◌, ◌%◌, ◌^◌, ◌<◌, ◌≤◌, ◌⊎◌, inl, inr, false, refl, sym, ap, ◌∙◌, arith, cases_eq, mul-div_cancel, FrameTable, entry_at}}
use Rattle.page_tables.proofs.{Names.{frame_of, is_pointer, index_of, is_pointer-zero}, Pages.{fields_same, span_positive, place_above, same_span_above, field_is, place_below, below_place, place_from}, Ways.{cases_bool, last_table-next}}
use Rattle.page_tables.{proofs.Ways.{last_table-stop, last_table-zero, last_at-next, last_at-stop}, specs.Tree.{IsRoot, last_table, missing_of}}

-- a way from a level on ends at that level or below it
pub last_most : (t : FrameTable) (page level n : ℕ) → (last_table t page level n).0 ≤ level
last_most t page zero n = rw (last_table-zero t page n) (omega arith)
last_most t page (suc level) n = elim (cases_bool (is_pointer (entry_at t n (index_of page (suc level))))) [
  | inl pointer ↦ (
      rw (last_table-next t page level n pointer) (omega (arith, last_most t page level (frame_of (entry_at t n (index_of page (suc level)))))))
  | inr stop ↦ rw (last_table-stop t page level n stop) (omega arith)
]

-- Pages that agree above the level where the way to one of them ends have that way as far.
pub way_same : (t : FrameTable) (p q level n k m : ℕ) → last_table t p level n ≡ (k, m) → p / 512 ^ (k + 1) ≡ q / 512 ^ (k + 1)
    → last_table t q level n ≡ last_table t q k m
way_same t p q zero n k m last same = ap (λ x. last_table t q x.0 x.1) (sym (last_table-zero t p n) ∙ last)
way_same t p q (suc level) n k m last same = elim (cases_bool (is_pointer (entry_at t n (index_of p (suc level))))) [
  | inl pointer ↦ (
      let next = frame_of (entry_at t n (index_of p (suc level))) in
      let rest : last_table t p level next ≡ (k, m) = sym (last_table-next t p level n pointer) ∙ last in
      let e : (last_table t p level next).0 ≡ k = ap (λ x. x.0) rest in
      let place : index_of p (suc level) ≡ index_of q (suc level) = fields_same p q (k + 1) (suc level) (omega (arith, e, last_most t p level next)) same in
      let here : entry_at t n (index_of q (suc level)) ≡ entry_at t n (index_of p (suc level)) = ap (entry_at t n) (sym place) in
      last_table-next t q level n (ap is_pointer here ∙ pointer) ∙ ap (λ x. last_table t q level (frame_of x)) here ∙ way_same t p q level next k m rest same)
  | inr stop ↦ ap (λ x. last_table t q x.0 x.1) (sym (last_table-stop t p level n stop) ∙ last)
]

-- what an entry says that is none
none_stops : (e : ℕ) → e ≡ 0 → is_pointer e ≡ false
none_stops e none = ap is_pointer none ∙ is_pointer-zero

-- The way to a page ends at table n of a level k above the lowest.
module _ (t : FrameTable) (top r page k n : ℕ) (last : last_table t page top r ≡ (k, n)) (some : 0 < k) where
  stops : is_pointer (entry_at t n (index_of page k)) ≡ false
  stops = elim (cases_bool (is_pointer (entry_at t n (index_of page k)))) [
    | inl pointer ↦ (
        let next = frame_of (entry_at t n (index_of page k)) in
        let again : last_table t page k n ≡ (k, n) = sym (way_same t page page top r k n last refl) ∙ last in
        let e : (last_table t page (k - 1) next).0 ≡ k = ap (λ x. x.0) (sym (last_at-next t page k n some pointer) ∙ again) in
        absurd (omega (arith, e, last_most t page (k - 1) next, some)))
    | inr stop ↦ stop
  ]

  stops_where : (p : ℕ) → page / 512 ^ (k + 1) ≡ p / 512 ^ (k + 1) → is_pointer (entry_at t n (index_of p k)) ≡ false → last_table t p top r ≡ (k, n)
  stops_where p same stop = way_same t page p top r k n last same ∙ last_at-stop t p k n some stop

  missing_where : (p : ℕ) → page / 512 ^ (k + 1) ≡ p / 512 ^ (k + 1) → is_pointer (entry_at t n (index_of p k)) ≡ false → missing_of t top r p ≡ k
  missing_where p same stop = missing_of-is t top r p ∙ ap (λ x. x.0) (stops_where p same stop)

  -- no more than the tables below are missing where an entry of that table is set
  set_where : (p : ℕ) → IsRoot top t r → page / 512 ^ (k + 1) ≡ p / 512 ^ (k + 1) → entry_at t n (index_of p k) ≢ 0 → missing_of t top r p < k
  set_where p root same set = elim (cases_bool (is_pointer (entry_at t n (index_of p k)))) [
    | inl pointer ↦ (
        let next = frame_of (entry_at t n (index_of p k)) in
        let e : missing_of t top r p ≡ (last_table t p (k - 1) next).0 =
        missing_of-is t top r p ∙ ap (λ x. x.0) (way_same t page p top r k n last same ∙ last_at-next t p k n some pointer) in
        omega (arith, e, last_most t p (k - 1) next, some))
    | inr stop ↦ (
        let ends = stops_where p same stop in
        let bare = root.bare p (λ e. omega (arith, e, missing_where p same stop, some)) in
        absurd (set (sym (ap (λ x. entry_at t x.1 (index_of p x.0)) ends) ∙ sym (last_entry-is t top r p) ∙ bare)))
  ]

  -- as many are missing on the way to each page in the place of the page's entry
  pub missing_there : (p : ℕ) → page / 512 ^ k ≡ p / 512 ^ k → missing_of t top r p ≡ k
  missing_there p same =
      missing_where p (same_span_above page p k same) (ap (λ j. is_pointer (entry_at t n j)) (sym (fields_same page p k k (omega arith) same)) ∙ stops)

  -- and on to a place, where the table has nothing from the entry after the page's own up to there
  pub missing_as_far : (next : ℕ) → next ≤ (page / 512 ^ (k + 1) + 1) * 512
      → ((i : ℕ) → page / 512 ^ k + 1 ≤ i → i < next → entry_at t n (i % 512) ≡ 0)
      → (p : ℕ) → page ≤ p → p < next * 512 ^ k → missing_of t top r p ≡ k
  missing_as_far next within none p from below = elim (cases_eq (p / 512 ^ k) (page / 512 ^ k)) [
    | inl same ↦ missing_there p (sym same)
    | inr other ↦ (
        let low = place_from page p k from in
        let high = place_below p next k below in
        let page_up = place_above page k in
        let p_up = place_above p k in
        let same : page / 512 ^ (k + 1) ≡ p / 512 ^ (k + 1) = row (page / 512 ^ k) (p / 512 ^ k) next (page / 512 ^ (k + 1)) (p / 512 ^ (k + 1)) page_up p_up low high within in
        missing_where p same (none_stops _ (ap (entry_at t n) (field_is p k) ∙ none (p / 512 ^ k) (omega (arith, low, other)) high)))
  ]
    where
      row : (x y next a b : ℕ) → a ≡ x / 512 → b ≡ y / 512 → x ≤ y → y < next → next ≤ (a + 1) * 512 → a ≡ b
      row x y next a b ax bx low high within = omega arith

  -- Past the first of those entries that is set fewer are missing; or it is past the place of a page that lies below the same table.
  pub fewer_past : (end next : ℕ) → IsRoot top t r → end / 512 ^ (k + 1) ≡ page / 512 ^ (k + 1) → page / 512 ^ k + 1 ≤ next → next ≤ end / 512 ^ k + 1
      → (next < end / 512 ^ k + 1 → entry_at t n (next % 512) ≢ 0) → (missing_of t top r (next * 512 ^ k) < k) ⊎ (end < next * 512 ^ k)
  fewer_past end next root same from within set = elim (cases_eq next (end / 512 ^ k + 1)) [
    | inl all ↦ inr (below_place end next k (omega (arith, all)))
    | inr other ↦ (
        let quotient : next * 512 ^ k / 512 ^ k ≡ next = mul-div_cancel next (span_positive k) in
        let here : index_of (next * 512 ^ k) k ≡ next % 512 = field_is (next * 512 ^ k) k ∙ ap (λ x. x % 512) quotient in
        let up : next * 512 ^ k / 512 ^ (k + 1) ≡ next / 512 = place_above (next * 512 ^ k) k ∙ ap (λ x. x / 512) quotient in
        let there : page / 512 ^ (k + 1) ≡ next / 512 =
        row (page / 512 ^ k) (end / 512 ^ k) next (page / 512 ^ (k + 1)) (end / 512 ^ (k + 1)) (place_above page k) (place_above end k) same from within other in
        inl (set_where (next * 512 ^ k) root (there ∙ sym up) (λ e. set (omega (arith, within, other)) (ap (entry_at t n) (sym here) ∙ e))))
  ]
    where
      row : (x y next a b : ℕ) → a ≡ x / 512 → b ≡ y / 512 → b ≡ a → x + 1 ≤ next → next ≤ y + 1 → next ≢ y + 1 → a ≡ next / 512
      row x y next a b ax bx same from within other = omega arith

-- the same by the number of missing tables
pub missing_in_place : (t : FrameTable) (top r page p : ℕ) → missing_of t top r page ≢ 0
    → page / 512 ^ missing_of t top r page ≡ p / 512 ^ missing_of t top r page → missing_of t top r p ≡ missing_of t top r page
missing_in_place t top r page p some same =
    let n = (last_table t page top r).1 in
    let last : last_table t page top r ≡ (missing_of t top r page, n) = ap (λ x. (x, n)) (sym (missing_of-is t top r page)) in
    missing_there t top r page (missing_of t top r page) n last (omega (arith, some)) p same
