-- Numbers joined by a bitwise or: 0 only where each of them is.
use Rattle.ranges.proofs.Names.{◌≡◌, ℕ, ◌+◌, ◌<◌, ◌≤◌, inl, inr, bit_or, ap, ◌∙◌, arith, cases_eq, le_or_l, le_or_r}

pub left : (a b : ℕ) → bit_or a b ≡ 0 → a ≡ 0
left a b none = let le = le_or_l a b in omega (arith, le, none)

pub right : (a b : ℕ) → bit_or a b ≡ 0 → b ≡ 0
right a b none = let le = le_or_r a b in omega (arith, le, none)

-- four neighbours
pub four : (f : ℕ → ℕ) (n : ℕ) → bit_or (bit_or (bit_or (f n) (f (n + 1))) (f (n + 2))) (f (n + 3)) ≡ 0 → (i : ℕ) → n ≤ i → i < n + 4 → f i ≡ 0
four f n none i least below =
    let three = left _ (f (n + 3)) none in
    let two = left _ (f (n + 2)) three in
    elim (cases_eq i n) [
      | inl at ↦ ap f at ∙ left (f n) (f (n + 1)) two
      | inr past ↦ elim (cases_eq i (n + 1)) [
        | inl at ↦ ap f at ∙ right (f n) (f (n + 1)) two
        | inr past' ↦ elim (cases_eq i (n + 2)) [
          | inl at ↦ ap f at ∙ right _ (f (n + 2)) three
          | inr past'' ↦ (let at : i ≡ n + 3 = omega (arith, least, below, past, past', past'') in ap f at ∙ right _ (f (n + 3)) none)
        ]
      ]
    ]
