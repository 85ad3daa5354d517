-- Elements of lists: of one that another stands behind, of its front, and of one that was changed.
use Rattle.std.proofs.Common.{ℕ, zero, suc, ◌≡◌, ◌<◌, ◌+◌, ◌⊎◌, ⊎_elim, inl, inr, List, [], ◌∷◌, ◌++◌, length, take, set, slice_get, Some, refl, ap, arith}
use Rattle.std.proofs.lemmas.Option.{same_Some}

pub get_left : {X : Type 0} (xs ys : List X) (i : ℕ) → i < length xs → slice_get (xs ++ ys) i ≡ slice_get xs i
get_left {X} [] ys i less = absurd (omega (arith, less))
get_left {X} (x ∷ xs) ys zero less = refl
get_left {X} (x ∷ xs) ys (suc i) less = get_left xs ys i (omega (arith, less))

pub get_right : {X : Type 0} (xs ys : List X) (i : ℕ) → slice_get (xs ++ ys) (length xs + i) ≡ slice_get ys i
get_right {X} [] ys i = let e : 0 + i ≡ i = omega arith in ap (slice_get ys) e
get_right {X} (x ∷ xs) ys i =
    let e : suc (length xs) + i ≡ suc (length xs + i) = omega arith in
    rw e (get_right xs ys i)

pub get_last : {X : Type 0} (xs : List X) (x : X) → slice_get (xs ++ x ∷ []) (length xs) ≡ Some x
get_last {X} [] x = refl
get_last {X} (y ∷ ys) x = get_last ys x

pub get_taken : {X : Type 0} (xs : List X) (n i : ℕ) → i < n → slice_get (take n xs) i ≡ slice_get xs i
get_taken {X} xs zero i less = absurd (omega (arith, less))
get_taken {X} [] (suc n) i less = refl
get_taken {X} (x ∷ xs) (suc n) zero less = refl
get_taken {X} (x ∷ xs) (suc n) (suc i) less = get_taken xs n i (omega (arith, less))

-- an element of two lists one behind the other is one of the first, or of the second
pub joined : {X : Type 0} (xs ys : List X) (i : ℕ) (y : X) → slice_get (xs ++ ys) i ≡ Some y → (slice_get xs i ≡ Some y) ⊎ ((j : ℕ) × (i ≡ length xs + j) × (slice_get ys j ≡ Some y))
joined {X} [] ys i y is = inr (i, omega arith, is)
joined {X} (x ∷ xs) ys zero y is = inl is
joined {X} (x ∷ xs) ys (suc i) y is = ⊎_elim inl (λ behind. inr (behind.0, omega (arith, behind.1), behind.2)) (joined xs ys i y is)

-- and of one with one more behind it, one of those before, or that
pub pushed : {X : Type 0} (xs : List X) (x y : X) (i : ℕ) → slice_get (xs ++ x ∷ []) i ≡ Some y → (slice_get xs i ≡ Some y) ⊎ ((i ≡ length xs) × (x ≡ y))
pushed {X} [] x y zero is = inr (refl, same_Some x y is)
pushed {X} [] x y (suc i) is = inl is
pushed {X} (z ∷ xs) x y zero is = inl is
pushed {X} (z ∷ xs) x y (suc i) is = ⊎_elim inl (λ last. inr (ap suc last.0, last.1)) (pushed xs x y i is)

pub get_set : {X : Type 0} (xs : List X) (i : ℕ) (x : X) → i < length xs → slice_get (set xs i x) i ≡ Some x
get_set {X} [] i x less = absurd (omega (arith, less))
get_set {X} (y ∷ ys) zero x less = refl
get_set {X} (y ∷ ys) (suc i) x less = get_set ys i x (omega (arith, less))

pub get_other : {X : Type 0} (xs : List X) (i j : ℕ) (x : X) → (j ≡ i → ⊥) → slice_get (set xs i x) j ≡ slice_get xs j
get_other {X} [] i j x other = refl
get_other {X} (y ∷ ys) zero zero x other = absurd (other refl)
get_other {X} (y ∷ ys) zero (suc j) x other = refl
get_other {X} (y ∷ ys) (suc i) zero x other = refl
get_other {X} (y ∷ ys) (suc i) (suc j) x other = get_other ys i j x (λ same. other (ap suc same))
