-- Places among the homes of extents.
use Rattle.std.proofs.Common.{ℕ, zero, suc, ◌≡◌, ◌<◌, ◌≤◌, ◌+◌, ◌-◌, ◌++◌, ◌∷◌, [], List, length, drop, get_or, slice_get, refl, sym, ap, ◌∙◌, arith, Some, length-append, drop-cons, add-one}
use Rattle.std.proofs.lemmas.List.FromFn.{length-range_with_len, get_or-range_with_len}
use Rattle.std.proofs.lemmas.Option.{slice_get-get_or}
use Rattle.std.specs.List.{range_with_len}
use Rattle.directories.specs.Homes.{homes_of}
use Rattle.directories.specs.declared.entry.Extent.{Extent}
use Rattle.directories.proofs.Said.{no_extent}

-- an element of the first of two lists, and of the second
pub get_left : (xs ys : List ℕ) (i : ℕ) → i < length xs → slice_get (xs ++ ys) i ≡ slice_get xs i
get_left [] ys i less = absurd (omega arith)
get_left (x ∷ xs) ys zero less = refl
get_left (x ∷ xs) ys (suc i) less = get_left xs ys i (omega arith)

pub get_right : (xs ys : List ℕ) (i : ℕ) → length xs ≤ i → slice_get (xs ++ ys) i ≡ slice_get ys (i - length xs)
get_right [] ys i past = let e : i - 0 ≡ i = omega arith in ap (slice_get ys) (sym e)
get_right (x ∷ xs) ys zero past = absurd (omega arith)
get_right (x ∷ xs) ys (suc i) past =
    let e : suc i - (suc (length xs)) ≡ i - length xs = omega arith in get_right xs ys i (omega arith) ∙ ap (slice_get ys) (sym e)

pub get_counted : (first count i : ℕ) → i < count → slice_get (range_with_len first count) i ≡ Some (first + i)
get_counted first count i less =
    let long = length-range_with_len first count in
    slice_get-get_or (range_with_len first count) i 0 (omega (arith, less, long)) ∙ ap Some (get_or-range_with_len first count i 0 less)

-- the homes from extent i on
pub homes_from : (extents : List Extent) (i : ℕ) → i < length extents
    → homes_of (drop i extents) ≡ range_with_len (get_or extents i no_extent).first (get_or extents i no_extent).count ++ homes_of (drop (i + 1) extents)
homes_from extents i inside = ap homes_of (drop-cons extents i no_extent inside ∙ ap (λ n. get_or extents i no_extent ∷ drop n extents) (sym (add-one i)))

-- a home of extent i, and one behind it
pub home_here : (extents : List Extent) (i left : ℕ) → i < length extents → left < (get_or extents i no_extent).count
    → slice_get (homes_of (drop i extents)) left ≡ Some ((get_or extents i no_extent).first + left)
home_here extents i left inside less =
    let x = get_or extents i no_extent in
    let long = length-range_with_len x.first x.count in
    ap (λ xs. slice_get xs left) (homes_from extents i inside)
    ∙ get_left (range_with_len x.first x.count) (homes_of (drop (i + 1) extents)) left (omega (arith, less, long))
    ∙ get_counted x.first x.count left less

pub home_behind : (extents : List Extent) (i left : ℕ) → i < length extents → (get_or extents i no_extent).count ≤ left
    → slice_get (homes_of (drop i extents)) left ≡ slice_get (homes_of (drop (i + 1) extents)) (left - (get_or extents i no_extent).count)
home_behind extents i left inside past =
    let x = get_or extents i no_extent in
    let long = length-range_with_len x.first x.count in
    ap (λ xs. slice_get xs left) (homes_from extents i inside)
    ∙ get_right (range_with_len x.first x.count) (homes_of (drop (i + 1) extents)) left (omega (arith, past, long))
    ∙ ap (λ n. slice_get (homes_of (drop (i + 1) extents)) (left - n)) long

pub homes_counted : (extents : List Extent) (i : ℕ) → i < length extents
    → length (homes_of (drop i extents)) ≡ (get_or extents i no_extent).count + length (homes_of (drop (i + 1) extents))
homes_counted extents i inside =
    let x = get_or extents i no_extent in
    ap (λ (xs : List ℕ). length xs) (homes_from extents i inside)
    ∙ length-append (range_with_len x.first x.count) (homes_of (drop (i + 1) extents))
    ∙ ap (λ n. n + length (homes_of (drop (i + 1) extents))) (length-range_with_len x.first x.count)
