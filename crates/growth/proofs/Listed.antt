-- Elements of lists, and what holds of the first of them.
use Rattle.std.proofs.Common.{ℕ, zero, suc, ◌≡◌, ◌<◌, ◌+◌, ◌-◌, ⊎_elim, List, [], ◌∷◌, length, take, drop, get_or, slice_get, sym, ap, subst, ◌∙◌, arith, Some, None, length-drop}
use Rattle.std.proofs.lemmas.Bool.{cases_eq}
use Rattle.std.proofs.lemmas.List.{take_all}
use Rattle.std.proofs.lemmas.Option.{get_or_from_slice_get, slice_get_past}
use Rattle.growth.specs.declared.changes.Change.{Change}

abbrev pub no_change : Change
no_change = record { file = 0; entry = None }

-- what holds of the first n elements, and of the next
pub one_more : {X : Type 0} (P : ℕ → X → Type 0) (xs : List X) (n : ℕ) (d : X) → ((j : ℕ) (y : X) → j < n → slice_get xs j ≡ Some y → P j y)
    → P n (get_or xs n d) → (j : ℕ) (y : X) → j < n + 1 → slice_get xs j ≡ Some y → P j y
one_more {X} P xs n d before here j y less is = ⊎_elim
    (λ (same : j ≡ n).
    let there : get_or xs n d ≡ y = ap (λ k. get_or xs k d) (sym same) ∙ get_or_from_slice_get xs j y d is in
    subst (λ (k : ℕ). P k y) (sym same) (subst (λ (v : X). P n v) there here))
    (λ other. before j y (omega (arith, less, other)) is)
    (cases_eq j n)

pub get_dropped : {X : Type 0} (xs : List X) (n k : ℕ) → slice_get (drop n xs) k ≡ slice_get xs (n + k)
get_dropped {X} xs zero k = let e : k ≡ 0 + k = omega arith in ap (slice_get xs) e
get_dropped {X} [] (suc n) k = sym (slice_get_past [] (suc n + k) (omega arith))
get_dropped {X} (x ∷ xs) (suc n) k =
    let e : suc (n + k) ≡ suc n + k = omega arith in
    get_dropped xs n k ∙ ap (slice_get (x ∷ xs)) e

pub rest_of : {X : Type 0} (xs : List X) (n : ℕ) → take (length xs - n) (drop n xs) ≡ drop n xs
rest_of {X} xs n = take_all (length xs - n) (drop n xs) (omega (arith, length-drop n xs))
