-- Extents in front that are the same in two lists.
use Rattle.std.proofs.Common.{ℕ, zero, suc, ◌≡◌, ◌<◌, ◌≤◌, ◌+◌, ◌⊎◌, inl, inr, ⊎_elim, ◌∷◌, [], List, length, drop, get_or, slice_get, ◌&&◌, eqb, Bool, true, false, refl, sym, ap, ◌∙◌, arith, Some, drop-cons, add-one}
use Rattle.std.proofs.lemmas.Bool.{cases_eq, cond-true, cond-false, eq-eqb, ne_eqb}
use Rattle.std.proofs.lemmas.List.{drop_all}
use Rattle.std.proofs.lemmas.Option.{none-some, same_Some}
use Rattle.directories.specs.declared.entry.Extent.{Extent}
use Rattle.directories.proofs.Said.{no_extent, extent_same}
use Rattle.growth.specs.Parts.{kept_count}

-- whether two extents are the same
abbrev pub same_extent : Extent → Extent → Bool
same_extent x y = (eqb x.first y.first) && (eqb x.count y.count)

pub told : (x y : Extent) → ((x ≡ y) × (same_extent x y ≡ true)) ⊎ ((x ≡ y → ⊥) × (same_extent x y ≡ false))
told x y = ⊎_elim
    (λ (first : x.first ≡ y.first). ⊎_elim
    (λ (count : x.count ≡ y.count). inl (extent_same x.first x.count y.first y.count first count, ap (λ b. b && (eqb x.count y.count)) (eq-eqb x.first y.first first) ∙ eq-eqb x.count y.count count))
    (λ count. inr ((λ same. count (ap (λ (z : Extent). z.count) same)), ap (λ b. b && (eqb x.count y.count)) (eq-eqb x.first y.first first) ∙ ne_eqb x.count y.count count))
    (cases_eq x.count y.count))
    (λ first. inr ((λ same. first (ap (λ (z : Extent). z.first) same)), ap (λ b. b && (eqb x.count y.count)) (ne_eqb x.first y.first first)))
    (cases_eq x.first y.first)

-- the first two of the lists
pub kept_one : (x y : Extent) (xs ys : List Extent) → x ≡ y → kept_count (x ∷ xs) (y ∷ ys) ≡ kept_count xs ys + 1
kept_one x y xs ys same = ⊎_elim
    (λ t. cond-true (same_extent x y) (kept_count xs ys + 1) 0 t.1)
    (λ f. absurd (f.0 same))
    (told x y)

pub kept_none : (x y : Extent) (xs ys : List Extent) → (x ≡ y → ⊥) → kept_count (x ∷ xs) (y ∷ ys) ≡ 0
kept_none x y xs ys differ = ⊎_elim
    (λ t. absurd (differ t.0))
    (λ f. cond-false (same_extent x y) (kept_count xs ys + 1) 0 f.1)
    (told x y)

pub kept_empty : (xs : List Extent) → kept_count xs [] ≡ 0
kept_empty [] = refl
kept_empty (x ∷ xs) = refl

-- what is kept is the same
pub kept_inside : (xs ys : List Extent) → kept_count xs ys ≤ length ys
kept_inside [] ys = omega arith
kept_inside (x ∷ xs) [] = omega arith
kept_inside (x ∷ xs) (y ∷ ys) = ⊎_elim
    (λ t. let one = kept_one x y xs ys t.0 in let rest = kept_inside xs ys in omega (arith, one, rest))
    (λ f. let none = kept_none x y xs ys f.0 in omega (arith, none))
    (told x y)

pub kept_same : (xs ys : List Extent) (j : ℕ) → j < kept_count xs ys → slice_get xs j ≡ slice_get ys j
kept_same [] ys j less = absurd (omega (arith, less))
kept_same (x ∷ xs) [] j less = absurd (omega (arith, less))
kept_same (x ∷ xs) (y ∷ ys) zero less = ⊎_elim
    (λ t. ap Some t.0)
    (λ f. let none = kept_none x y xs ys f.0 in absurd (omega (arith, none, less)))
    (told x y)
kept_same (x ∷ xs) (y ∷ ys) (suc j) less = ⊎_elim
    (λ t. let one = kept_one x y xs ys t.0 in kept_same xs ys j (omega (arith, one, less)))
    (λ f. let none = kept_none x y xs ys f.0 in absurd (omega (arith, none, less)))
    (told x y)

-- and what is behind it is not
pub kept_ends : (xs ys : List Extent) → kept_count xs ys < length ys → slice_get xs (kept_count xs ys) ≡ slice_get ys (kept_count xs ys) → ⊥
kept_ends [] [] less same = omega (arith, less)
kept_ends [] (y ∷ ys) less same = none-some y same
kept_ends (x ∷ xs) [] less same = omega (arith, less)
kept_ends (x ∷ xs) (y ∷ ys) less same = ⊎_elim
    (λ t.
    let one : kept_count (x ∷ xs) (y ∷ ys) ≡ suc (kept_count xs ys) = kept_one x y xs ys t.0 ∙ add-one (kept_count xs ys) in
    kept_ends xs ys (omega (arith, one, less))
    (sym (ap (slice_get (x ∷ xs)) one) ∙ same ∙ ap (slice_get (y ∷ ys)) one))
    (λ f.
    let none = kept_none x y xs ys f.0 in
    f.0 (same_Some x y (sym (ap (slice_get (x ∷ xs)) none) ∙ same ∙ ap (slice_get (y ∷ ys)) none)))
    (told x y)

-- counting from place i on
pub count_more : (xs ys : List Extent) (i : ℕ) → i < length xs → i < length ys → get_or xs i no_extent ≡ get_or ys i no_extent
    → kept_count (drop i xs) (drop i ys) ≡ kept_count (drop (i + 1) xs) (drop (i + 1) ys) + 1
count_more xs ys i left right same =
    ap (λ (zs : List Extent). kept_count zs (drop i ys)) (drop-cons xs i no_extent left)
    ∙ ap (λ (zs : List Extent). kept_count (get_or xs i no_extent ∷ drop (suc i) xs) zs) (drop-cons ys i no_extent right)
    ∙ kept_one (get_or xs i no_extent) (get_or ys i no_extent) (drop (suc i) xs) (drop (suc i) ys) same
    ∙ ap (λ n. kept_count (drop n xs) (drop n ys) + 1) (sym (add-one i))

pub count_ends : (xs ys : List Extent) (i : ℕ) → i < length xs → i < length ys → (get_or xs i no_extent ≡ get_or ys i no_extent → ⊥) → kept_count (drop i xs) (drop i ys) ≡ 0
count_ends xs ys i left right differ =
    ap (λ (zs : List Extent). kept_count zs (drop i ys)) (drop-cons xs i no_extent left)
    ∙ ap (λ (zs : List Extent). kept_count (get_or xs i no_extent ∷ drop (suc i) xs) zs) (drop-cons ys i no_extent right)
    ∙ kept_none (get_or xs i no_extent) (get_or ys i no_extent) (drop (suc i) xs) (drop (suc i) ys) differ

pub count_past_old : (xs ys : List Extent) (i : ℕ) → length xs ≤ i → kept_count (drop i xs) (drop i ys) ≡ 0
count_past_old xs ys i past = ap (λ (zs : List Extent). kept_count zs (drop i ys)) (drop_all i xs past)

pub count_past_new : (xs ys : List Extent) (i : ℕ) → length ys ≤ i → kept_count (drop i xs) (drop i ys) ≡ 0
count_past_new xs ys i past = ap (λ (zs : List Extent). kept_count (drop i xs) zs) (drop_all i ys past) ∙ kept_empty (drop i xs)
