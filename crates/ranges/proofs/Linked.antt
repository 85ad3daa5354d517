-- A search over the entries of an upper table: where it begins and ends, and which pages it passes.
use Rattle.ranges.proofs.Names.{top_level, ◌≡◌, ◌≢◌, ℕ, zero, suc, ◌+◌, ◌*◌, ◌/◌, ◌%◌, ◌^◌, ◌≤◌, ◌<◌, ◌⊎◌, inl, inr, sym, ap, ◌∙◌, subst, arith, min, FrameTable, entry_at, IsRoot, last_table, missing_of, missing_of-is, place_above}
use Rattle.ranges.{proofs.Names.{below_place, same_place, missing_as_far, fewer_past}, specs.Steps.{IsPastGap}}

-- a page that isn't before the first one past a place is past it
pub past_place : (page next k : ℕ) → page / 512 ^ k + 1 ≤ next → page < next * 512 ^ k
past_place page next k past = below_place page next k (omega (arith, past))

pub next_fits : (last next k : ℕ) → k ≤ 3 → last < 2 ^ 35 → next ≤ last / 512 ^ k + 1 → next * 512 ^ k ≤ 2 ^ 37
next_fits last next zero le low within = let e : next * 1 ≤ 2 ^ 37 = omega (arith, low, within) in e
next_fits last next (suc zero) le low within = let h : next ≤ last / 512 + 1 = within in let e : next * 512 ≤ 2 ^ 37 = omega (arith, low, h) in e
next_fits last next (suc (suc zero)) le low within = let h : next ≤ last / 262144 + 1 = within in let e : next * 262144 ≤ 2 ^ 37 = omega (arith, low, h) in e
next_fits last next (suc (suc (suc zero))) le low within = let h : next ≤ last / 134217728 + 1 = within in let e : next * 134217728 ≤ 2 ^ 37 = omega (arith, low, h) in e
next_fits last next (suc (suc (suc (suc k)))) le low within = absurd (omega (arith, le))

-- the end of a span is past each page of it
pub own_past : (page own k : ℕ) → own ≡ (page / 512 ^ k + 1) * 512 ^ k → page < own
own_past page own k is = let lt = past_place page (page / 512 ^ k + 1) k (omega arith) in omega (arith, is, lt)

-- The way to a page ends at a table of level k, and `own` is where the pages below that table end; the search is as far as the nearer
-- of that and of another end.
module _ (page end own last k : ℕ) (before : page < end) (is_own : own ≡ (page / 512 ^ (k + 1) + 1) * 512 ^ (k + 1)) (is_last : last + 1 ≡ min end own) where
  pub last_from : page ≤ last
  last_from = let past = own_past page own (k + 1) is_own in omega (arith, past, before, is_last)

  pub last_below : last < end
  last_below = omega (arith, is_last)

  same_table : last / 512 ^ (k + 1) ≡ page / 512 ^ (k + 1)
  same_table = same_place page last own (k + 1) last_from (omega (arith, is_last)) (omega (arith, is_own))

  -- the places are those of one table
  pub search_table : last / 512 ^ k + 1 ≤ (page / 512 ^ (k + 1) + 1) * 512
  search_table =
      row (last / 512 ^ k) (last / 512 ^ (k + 1)) (page / 512 ^ (k + 1)) (place_above last k) same_table
    where
      row : (x b a : ℕ) → b ≡ x / 512 → b ≡ a → x + 1 ≤ (a + 1) * 512
      row x b a bx same = omega arith

  pub search_one_table : last / 512 ^ k + 1 ≤ ((page / 512 ^ k + 1) / 512 + 1) * 512
  search_one_table = row (page / 512 ^ k) (page / 512 ^ (k + 1)) (last / 512 ^ k + 1) (place_above page k) search_table
    where
      row : (x a z : ℕ) → a ≡ x / 512 → z ≤ (a + 1) * 512 → z ≤ ((x + 1) / 512 + 1) * 512
      row x a z ax le = omega arith

  module _ (mode : ℕ) (t : FrameTable) (r n next : ℕ) (ends : (k, n) ≡ last_table t page (top_level mode) r) (some : 0 < k)
      (from : page / 512 ^ k + 1 ≤ next) (within : next ≤ last / 512 ^ k + 1) where
    missing : missing_of t (top_level mode) r page ≡ k
    missing = missing_of-is t (top_level mode) r page ∙ ap (λ x. x.0) (sym ends)

    pub passed_missing : ((i : ℕ) → page / 512 ^ k + 1 ≤ i → i < next → entry_at t n (i % 512) ≡ 0)
        → (p : ℕ) → page ≤ p → p < next * 512 ^ k → missing_of t (top_level mode) r p ≢ 0
    passed_missing none p least below e =
        let there = missing_as_far t (top_level mode) r page k n (sym ends) some next (omega (arith, within, search_table)) none p least below in
        omega (arith, there, e, some)

    pub stops_past : IsRoot (top_level mode) t r → (next < last / 512 ^ k + 1 → entry_at t n (next % 512) ≢ 0) → IsPastGap mode t r page end (next * 512 ^ k)
    stops_past root found =
        let P : ℕ → Type 0 = λ x. (missing_of t (top_level mode) r (next * 512 ^ k) < x) ⊎ (min end ((page / 512 ^ (x + 1) + 1) * 512 ^ (x + 1)) ≤ next * 512 ^ k) in
        subst P (sym missing) (elim (fewer_past t (top_level mode) r page k n (sym ends) some last next root same_table from within found) [
          | inl fewer ↦ inl fewer
          | inr past ↦ inr (let m : last + 1 ≡ min end ((page / 512 ^ (k + 1) + 1) * 512 ^ (k + 1)) = is_last ∙ ap (min end) is_own in omega (arith, past, m))
        ])
