-- The pages of one table: the ways to them are the same, and so is what is missing on them.
use Rattle.ranges.proofs.Names.{top_level, user_end, user_pages_fit, ◌≡◌, ◌≢◌, ℕ, ◌+◌, ◌*◌, ◌/◌, ◌^◌, ◌≤◌, ◌<◌, Some, sym, ap, ◌∙◌, subst, arith, same_Some, min, max, FrameTable, IsPage, missing_of, missing_of-is, page_entry-missing}
use Rattle.ranges.proofs.Names.{same_place, last_in_row, last_table, missing_in_place, IsTable, IsTableOf, Picture, entry, IsWhole, entry-of}

-- on the way to pages of one lowest table as many are missing
module _ (mode : ℕ) where
  pub missing_same : (t : FrameTable) (p q r : ℕ) → p / 512 ≡ q / 512 → missing_of t (top_level mode) r q ≡ missing_of t (top_level mode) r p
  missing_same t p q r same = missing_of-is t (top_level mode) r q ∙ ap (λ x. x.0) (last_in_row t p q (top_level mode) r same) ∙ sym (missing_of-is t (top_level mode) r p)

-- where the way to a page ends at the lowest level is the table of its row
pub table_at : (t : FrameTable) (top r page n k : ℕ) → (k, n) ≡ last_table t page top r → k ≡ 0 → IsTable t n → IsTableOf t top r (page / 512) n
table_at t top r page n k ends low table = record {
  table = table;
  whole = λ p same. missing_of-is t top r p ∙ ap (λ x. x.0) (last_in_row t page p top r (sym same) ∙ sym ends) ∙ low;
  last = λ p same. ap (λ x. x.1) (last_in_row t page p top r (sym same) ∙ sym ends);
}

-- where a step over a row ends that begins with a page on whose way a table is missing
pub step_gap : (page end next gap m : ℕ) → m ≢ 0 → gap ≡ (page / 512 ^ m + 1) * 512 ^ m → next ≡ min end gap → next ≡ min end ((page / 512 ^ max 1 m + 1) * 512 ^ max 1 m)
step_gap page end next gap m some past is = let same : m ≡ max 1 m = omega arith in subst (λ (x : ℕ). next ≡ min end ((page / 512 ^ x + 1) * 512 ^ x)) same (is ∙ ap (min end) past)

-- pages up to the end of a lowest table are in its row
pub in_row_of : (start page stop end : ℕ) → start ≤ page → page < stop → stop ≤ end → end ≡ (start / 512 + 1) * 512 → page / 512 ≡ start / 512
in_row_of start page stop end from below le is = omega arith

-- and up to the end of what stands in the place of one entry in that place
pub in_span_of : (start page stop end k : ℕ) → start ≤ page → page < stop → stop ≤ end → end ≡ (start / 512 ^ k + 1) * 512 ^ k → page / 512 ^ k ≡ start / 512 ^ k
in_span_of start page stop end k from below le is = same_place start page stop k from below (omega (arith, le, is))

-- a user page is one of the tree
pub user_inside : (mode page end : ℕ) → page < end → end ≤ user_end mode → IsPage (top_level mode) page
user_inside mode page end some high = let fits = user_pages_fit mode in omega (arith, some, high, fits)

pub one_some : (a b : ℕ) → Some a ≡ Some b → a ≡ b
one_some a b e = same_Some a b e

-- what is missing from its root is missing on the way to a process's page, which has no entry then
module _ {mode : ℕ} (c : Picture mode) (pid r : ℕ) (root : c.root pid ≡ Some r) where
  pub no_whole : (p : ℕ) → missing_of c.frames (top_level mode) r p ≢ 0 → IsWhole c pid p → ⊥
  no_whole p some whole = some (whole r root)

  pub no_entry : (p : ℕ) → missing_of c.frames (top_level mode) r p ≢ 0 → entry c pid p ≡ 0
  no_entry p some = entry-of c pid r p root ∙ page_entry-missing c.frames (top_level mode) r p some

  pub is_whole : (p q : ℕ) → q ≡ p → missing_of c.frames (top_level mode) r q ≡ 0 → IsWhole c pid p
  is_whole p q same none r' root' =
      ap (λ x. missing_of c.frames (top_level mode) x p) (sym (same_Some r r' (sym root ∙ root'))) ∙ ap (missing_of c.frames (top_level mode) r) (sym same) ∙ none

  -- no page has an entry in the place of a missing table
  pub gap_none : (k p q : ℕ) → missing_of c.frames (top_level mode) r p ≡ k → k ≢ 0 → p / 512 ^ k ≡ q / 512 ^ k → entry c pid q ≡ 0
  gap_none k p q is some same =
      let here : missing_of c.frames (top_level mode) r p ≢ 0 = λ e. some (sym is ∙ e) in
      no_entry q (λ e. here (sym (missing_in_place c.frames (top_level mode) r p q here (subst (λ (x : ℕ). p / 512 ^ x ≡ q / 512 ^ x) (sym is) same)) ∙ e))
