-- A table has no entry exactly where its bytes are zeros.
use Rattle.page_tables.{proofs.Names.{◌≡◌, ℕ, zero, suc, inl, inr, ◌+◌, ◌*◌, ◌/◌, ◌%◌, ◌<◌, ◌≤◌, List, get_or, drop, refl, sym, ap, ◌∙◌, arith, cases_eq, get_or-drop, little_from, FrameTable, bytes_of, entry_at}, specs.Tree.{IsEmptyTable}}

-- a number whose bytes are zeros is 0
from_zeros : (i n : ℕ) (xs : List ℕ) → ((k : ℕ) → i ≤ k → k < i + n → get_or xs k 0 ≡ 0) → little_from i n xs ≡ 0
from_zeros i zero xs z = refl
from_zeros i (suc n) xs z =
    let rest : little_from (suc i) n xs ≡ 0 = from_zeros (suc i) n xs (λ k least below. z k (omega (arith, least)) (omega (arith, below))) in
    let first : get_or xs i 0 ≡ 0 = z i (omega arith) (omega arith) in
    omega (arith, first, rest)

-- and the other way round
to_zeros : (i n : ℕ) (xs : List ℕ) → little_from i n xs ≡ 0 → (k : ℕ) → i ≤ k → k < i + n → get_or xs k 0 ≡ 0
to_zeros i zero xs none k least below = absurd (omega (arith, least, below))
to_zeros i (suc n) xs none k least below =
    let none' : get_or xs i 0 + 256 * little_from (suc i) n xs ≡ 0 = none in
    elim (cases_eq k i) [
      | inl is ↦ (let first : get_or xs i 0 ≡ 0 = omega (arith, none') in ap (λ j. get_or xs j 0) is ∙ first)
      | inr ne ↦ (let rest : little_from (suc i) n xs ≡ 0 = omega (arith, none') in to_zeros (suc i) n xs rest k (omega (arith, least, ne)) (omega (arith, below)))
    ]

pub entries_zero : (t : FrameTable) (n : ℕ) → ((k : ℕ) → k < 4096 → get_or (bytes_of t n) k 0 ≡ 0) → IsEmptyTable t n
unfolding entry_at
entries_zero t n zeros i below =
    from_zeros 0 8 (drop (8 * i) (bytes_of t n)) (λ k least under. get_or-drop (8 * i) (bytes_of t n) k 0 ∙ zeros (8 * i + k) (omega (arith, below, under)))

pub bytes_zero : (t : FrameTable) (n : ℕ) → IsEmptyTable t n → (k : ℕ) → k < 4096 → get_or (bytes_of t n) k 0 ≡ 0
unfolding entry_at
bytes_zero t n empty k below =
    let i = k / 8 in
    let place : 8 * i + k % 8 ≡ k = omega arith in
    let here : get_or (drop (8 * i) (bytes_of t n)) (k % 8) 0 ≡ 0 = to_zeros 0 8 (drop (8 * i) (bytes_of t n)) (empty i (omega (arith, below))) (k % 8) (omega arith) (omega arith) in
    ap (λ j. get_or (bytes_of t n) j 0) (sym place) ∙ sym (get_or-drop (8 * i) (bytes_of t n) (k % 8) 0) ∙ here
