-- Ways to pages: which tables they go through, and which pages have one way.
use Rattle.inspection.proofs.Names.{◌≡◌, ℕ, zero, suc, ◌+◌, ◌-◌, ◌*◌, ◌/◌, ◌^◌, ◌<◌, ◌≤◌, true, false, inl, inr, sym, ap, ◌∙◌, subst, arith, cases_eq, cases_lt, false≢true, mul-div_cancel, div-mul-le_self, FrameTable, entry_at, frame_of}
use Rattle.inspection.proofs.Names.{is_pointer, index_of, IsForest, IsOnWay, IsPage, IsTable, Points, Way, last_table, missing_of, missing_of-is, fields_same, span_positive, ends}

-- two ways to a page that are as long lead to one table
pub one_table : (t : FrameTable) (top root page d n n' : ℕ) → Way t top root page d n → Way t top root page d n' → n ≡ n'
one_table t top root page zero n n' w w' = w ∙ sym w'
one_table t top root page (suc d) n n' w w' =
    let m : w.0 ≡ w'.0 = one_table t top root page d w.0 w'.0 w.1 w'.1 in
    sym w.2.target ∙ ap (λ x. frame_of (entry_at t x (index_of page (top - d)))) m ∙ w'.2.target

-- a way to one page is a way to each with the same fields above
pub way_over : (t : FrameTable) (top root p q d n : ℕ) → ((k : ℕ) → k < d → index_of p (top - k) ≡ index_of q (top - k)) → Way t top root p d n → Way t top root q d n
way_over t top root p q zero n same w = w
way_over t top root p q (suc d) n same w =
    let P : ℕ → Type 0 = λ i. Points t w.0 i n in
    (w.0, way_over t top root p q d w.0 (λ k less. same k (omega (arith, less))) w.1, subst P (same d (omega arith)) w.2)

-- so is a way to a page that is in one place with another
pub way_within : (t : FrameTable) (top root p q low d n : ℕ) → p / 512 ^ low ≡ q / 512 ^ low → d + low ≤ top + 1 → Way t top root p d n → Way t top root q d n
way_within t top root p q low d n same le w = way_over t top root p q d n (λ k less. fields_same p q low (top - k) (omega (arith, le, less)) same) w

-- a longer way goes on by a pointer
pub goes_on : (t : FrameTable) (top root page d n e : ℕ) → e < d → Way t top root page d n
    → (m : ℕ) × Way t top root page e m × (is_pointer (entry_at t m (index_of page (top - e))) ≡ true)
goes_on t top root page zero n e less w = absurd (omega (arith, less))
goes_on t top root page (suc d) n e less w = elim (cases_eq e d) [
  | inl is ↦ (
      let P : ℕ → Type 0 = λ x. (m : ℕ) × Way t top root page x m × (is_pointer (entry_at t m (index_of page (top - x))) ≡ true) in
      subst P (sym is) (w.0, w.1, w.2.pointer))
  | inr ne ↦ goes_on t top root page d w.0 e (omega (arith, less, ne)) w.1
]

-- where a table is missing on the way to a page, the pages in its place have no further ways
module _ (t : FrameTable) (top root page m : ℕ) (forest : IsForest t) (table : IsTable t root) (missing : missing_of t top root page ≡ m) (some : 0 < m) where
  abbrev last : ℕ
  last = (last_table t page top root).1

  level : (last_table t page top root).0 ≡ m
  level = sym (missing_of-is t top root page) ∙ missing

  least : m ≤ top
  least = let le = (ends t top root page forest table).least in omega (arith, le, level)

  way : Way t top root page (top - m) last
  way = let P : ℕ → Type 0 = λ x. Way t top root page (top - x) last in subst P level (ends t top root page forest table).way

  stops : is_pointer (entry_at t last (index_of page m)) ≡ false
  stops = let P : ℕ → Type 0 = λ x. is_pointer (entry_at t last (index_of page x)) ≡ false in subst P level ((ends t top root page forest table).stops (omega (arith, level, some)))

  pub one_gap : (k n : ℕ) → k / 512 ^ m ≡ page / 512 ^ m → IsOnWay t top root k n → IsOnWay t top root page n
  one_gap k n same (d, le, w) = elim (cases_lt (top - m) d) [
    | inr short ↦ (d, le, way_within t top root k page m d n same (let l = least in omega (arith, short, l)) w)
    | inl long ↦ (
        let l = least in
        let on = goes_on t top root k d n (top - m) long w in
        let is : on.0 ≡ last = one_table t top root page (top - m) on.0 last (way_within t top root k page m (top - m) on.0 same (omega (arith, l)) on.1) way in
        let back : top - (top - m) ≡ m = omega (arith, l) in
        let field : index_of k (top - (top - m)) ≡ index_of page m = ap (index_of k) back ∙ fields_same k page m m (omega arith) same in
        let pointer : is_pointer (entry_at t last (index_of page m)) ≡ true =
        ap (λ x. is_pointer (entry_at t x (index_of page m))) (sym is) ∙ ap (λ i. is_pointer (entry_at t on.0 i)) (sym field) ∙ on.2 in
        absurd (false≢true (sym stops ∙ pointer)))
  ]

-- and the pages of one lowest table have one way
pub one_row : (t : FrameTable) (top root page k n : ℕ) → k / 512 ≡ page / 512 → IsOnWay t top root k n → IsOnWay t top root page n
one_row t top root page k n same (d, le, w) = (d, le, way_within t top root k page 1 d n same (omega (arith, le)) w)

-- the first page of a place
pub same_first : (page k : ℕ) → page / 512 ^ k ≡ page / 512 ^ k * 512 ^ k / 512 ^ k
same_first page k = sym (mul-div_cancel (page / 512 ^ k) (span_positive k))

pub first_inside : (top page k : ℕ) → IsPage top page → IsPage top (page / 512 ^ k * 512 ^ k)
first_inside top page k inside = let low = div-mul-le_self page (512 ^ k) in omega (arith, low, inside)
