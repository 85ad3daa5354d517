-- Lists of pages, one page after the other: pages inside their files, and pages listed once.
use Rattle.std.proofs.{Common.{ℕ, ◌≡◌, ◌<◌, ◌+◌, ◌-◌, ⊎_elim, List, length, take, get_or, slice_get, Option, Some, sym, ap, subst, ◌∙◌, arith}, lemmas.{Bool.{cases_eq}, List.{get_or-take, length-take-le}, Option.{slice_get_within, slice_get-get_or, get_or_from_slice_get}}}
use Rattle.vm_types.specs.declared.file.{FileInfo.{FileInfo}, FilePage.{FilePage}}
use Rattle.file_store.specs.Standing.{IsPageOf}
use Rattle.batches.specs.Pages.{AreDistinct, AreRising, place_of}

-- what stands at a place, by another number of it
at_same : (list : List FilePage) (i j : ℕ) (p d : FilePage) → j ≡ i → slice_get list j ≡ Some p → get_or list i d ≡ p
at_same list i j p d same at_p = get_or_from_slice_get list i p d (ap (slice_get list) (sym same) ∙ at_p)

-- the first n pages begin inside their files
abbrev pub AreInside : (ℕ → Option FileInfo) → ℕ → List FilePage → Type 0
AreInside files n list = (i : ℕ) (p : FilePage) → i < n → slice_get list i ≡ Some p → IsPageOf files p.file p.page

pub inside_more : (files : ℕ → Option FileInfo) (list : List FilePage) (n : ℕ) (d : FilePage) → IsPageOf files (get_or list n d).file (get_or list n d).page
    → AreInside files n list → AreInside files (n + 1) list
inside_more files list n d page inside i p below at_i = ⊎_elim
    (λ last. subst (λ (q : FilePage). IsPageOf files q.file q.page) (at_same list n i p d last at_i) page)
    (λ inner. inside i p (omega (arith, inner, below)) at_i)
    (cases_eq i n)

-- pages in rising order are listed once
pub rising_distinct : (list : List FilePage) (n : ℕ) → AreRising n list → AreDistinct n list
rising_distinct list n rising i j p lower below at_i at_j = let less = rising i j p p lower below at_i at_j in omega (arith, less)

-- a page that lies behind the last one of a rising list
pub rising_more : (list : List FilePage) (i : ℕ) (d : FilePage) → 0 < i → i < length list → place_of (get_or list (i - 1) d) < place_of (get_or list i d)
    → AreRising i list → AreRising (i + 1) list
rising_more list i d some within less rising j k p q lower below at_p at_q = ⊎_elim
    (λ last.
    let here : place_of (get_or list i d) ≡ place_of q = ap place_of (at_same list i k q d last at_q) in
    ⊎_elim
    (λ next. (let before : place_of (get_or list (i - 1) d) ≡ place_of p = ap place_of (at_same list (i - 1) j p d next at_p) in omega (arith, less, here, before)))
    (λ far.
    (let first = rising j (i - 1) p (get_or list (i - 1) d) (omega (arith, far, lower, last)) (omega (arith, some)) at_p (slice_get-get_or list (i - 1) d (omega (arith, within))) in
    omega (arith, first, less, here)))
    (cases_eq j (i - 1)))
    (λ inner. rising j k p q lower (omega (arith, inner, below)) at_p at_q)
    (cases_eq k i)

-- a page that is not among those before it
pub distinct_more : (list : List FilePage) (i : ℕ) (d : FilePage) → i < length list → ((j : ℕ) → slice_get (take i list) j ≡ Some (get_or list i d) → ⊥)
    → AreDistinct i list → AreDistinct (i + 1) list
distinct_more list i d within absent distinct j k p lower below at_j at_k = ⊎_elim
    (λ last.
    let inside : j < i = omega (arith, lower, last) in
    let long : length (take i list) ≡ i = length-take-le i list (omega (arith, within)) in
    absent j (slice_get-get_or (take i list) j d (omega (arith, inside, long))
    ∙ ap Some (get_or-take i list j d inside ∙ get_or_from_slice_get list j p d at_j ∙ sym (at_same list i k p d last at_k))))
    (λ inner. distinct j k p lower (omega (arith, inner, below)) at_j at_k)
    (cases_eq k i)

-- a page that is among them
pub listed_twice : (list : List FilePage) (i : ℕ) (d : FilePage) (j : ℕ) → i < length list → slice_get (take i list) j ≡ Some (get_or list i d)
    → AreDistinct (length list) list → ⊥
listed_twice list i d j within at_j distinct =
    let long : length (take i list) ≡ i = length-take-le i list (omega (arith, within)) in
    let inside : j < i = omega (arith, long, slice_get_within (take i list) j (get_or list i d) at_j) in
    distinct j i (get_or list i d) inside within
    (slice_get-get_or list j d (omega (arith, inside, within)) ∙ ap Some (sym (get_or-take i list j d inside) ∙ get_or_from_slice_get (take i list) j (get_or list i d) d at_j))
    (slice_get-get_or list i d within)
