-- The pages of a directory that changes change.
use Rattle.std.proofs.Common.{ℕ, zero, suc, ◌≡◌, ◌/◌, ◌<◌, ◌==◌, ⊎_elim, List, [], ◌∷◌, ◌++◌, length, get_or, Bool, true, false, true≢false, if◌then◌else◌, Some, None, append-nil, length-append, refl, sym, ap, subst, ◌∙◌, arith}
use Rattle.std.proofs.lemmas.{Bool.{cases_Bool, cases_eq, cases_lt, cond-true, cond-false, eq-eqb, ne_eqb}, List.{get_or_append_left, get_or_push, length_push}}
use Rattle.growth.specs.{Changes.{change_of}, declared.changes.Change.{Change}}
use Rattle.pool_growth.specs.Asked.{changed_pages, is_changed}

-- one page more
one_more : (changes : List Change) (n : ℕ) → is_changed changes n ≡ true → changed_pages changes (suc n) ≡ changed_pages changes n ++ n ∷ []
unfolding changed_pages
one_more changes n is = ap (λ (b : Bool). changed_pages changes n ++ (if b then n ∷ [] else [])) is

no_more : (changes : List Change) (n : ℕ) → is_changed changes n ≡ false → changed_pages changes (suc n) ≡ changed_pages changes n
unfolding changed_pages
no_more changes n is = ap (λ (b : Bool). changed_pages changes n ++ (if b then n ∷ [] else [])) is ∙ append-nil (changed_pages changes n)

-- these are pages among the first n that changes change
abbrev AreChanged : List Change → ℕ → List ℕ → Type 0
AreChanged changes n pages = (j : ℕ) → j < length pages → (get_or pages j 0 < n) × (is_changed changes (get_or pages j 0) ≡ true)

one_changed : (changes : List Change) (n : ℕ) (pages : List ℕ) → is_changed changes n ≡ true → AreChanged changes n pages → AreChanged changes (suc n) (pages ++ n ∷ [])
one_changed changes n pages is before j below = ⊎_elim
    (λ less.
    let at : get_or (pages ++ n ∷ []) j 0 ≡ get_or pages j 0 = get_or_append_left pages (n ∷ []) 0 j less in
    let was = before j less in
    (omega (arith, at, was.0), ap (is_changed changes) at ∙ was.1))
    (λ past.
    let last : get_or (pages ++ n ∷ []) j 0 ≡ n = get_or_push pages n 0 j (omega (arith, past, below, length_push pages n)) in
    (omega (arith, last), ap (is_changed changes) last ∙ is))
    (cases_lt j (length pages))

-- the changed pages are,
pub are_changed : (changes : List Change) (n j : ℕ) → j < length (changed_pages changes n) → (get_or (changed_pages changes n) j 0 < n) × (is_changed changes (get_or (changed_pages changes n) j 0) ≡ true)
unfolding changed_pages
are_changed changes zero = λ j below. absurd (omega (arith, below))
are_changed changes (suc n) = ⊎_elim
    (λ is. subst (AreChanged changes (suc n)) (sym (one_more changes n is)) (one_changed changes n (changed_pages changes n) is (are_changed changes n)))
    (λ still. subst (AreChanged changes (suc n)) (sym (no_more changes n still)) (λ j below. (let was = are_changed changes n j below in (omega (arith, was.0), was.1))))
    (cases_Bool (is_changed changes n))

-- page q is one of these
abbrev pub StandsIn : List ℕ → ℕ → Type 0
StandsIn pages q = (j : ℕ) × (j < length pages) × (get_or pages j 0 ≡ q)

pub in_front : (pages others : List ℕ) (q : ℕ) → StandsIn pages q → StandsIn (pages ++ others) q
in_front pages others q at = (at.0, (let less = at.1 in omega (arith, less, length-append pages others)), get_or_append_left pages others 0 at.0 at.1 ∙ at.2)

-- and each page that is changed is one of them
pub changed_found : (changes : List Change) (n q : ℕ) → q < n → is_changed changes q ≡ true → StandsIn (changed_pages changes n) q
changed_found changes zero q below is = absurd (omega (arith, below))
changed_found changes (suc n) q below is = ⊎_elim
    (λ (last : q ≡ n). subst (λ (pages : List ℕ). StandsIn pages q) (sym (one_more changes n (ap (is_changed changes) (sym last) ∙ is)))
    (length (changed_pages changes n), omega (arith, length_push (changed_pages changes n) n), get_or_push (changed_pages changes n) n 0 (length (changed_pages changes n)) refl ∙ sym last))
    (λ other.
    let before : StandsIn (changed_pages changes n) q = changed_found changes n q (omega (arith, below, other)) is in
    ⊎_elim
    (λ more. subst (λ (pages : List ℕ). StandsIn pages q) (sym (one_more changes n more)) (in_front (changed_pages changes n) (n ∷ []) q before))
    (λ still. subst (λ (pages : List ℕ). StandsIn pages q) (sym (no_more changes n still)) before)
    (cases_Bool (is_changed changes n)))
    (cases_eq q n)

-- a page that the first of some changes does not change, nor the others
not_first : (c : Change) (cs : List Change) (q : ℕ) → is_changed (c ∷ cs) q ≡ false → (c.file / 16 ≡ q → ⊥) × (is_changed cs q ≡ false)
not_first c cs q still = ⊎_elim
    (λ same. absurd (true≢false (sym (cond-true (c.file / 16 == q) true (is_changed cs q) (eq-eqb (c.file / 16) q same)) ∙ still)))
    (λ other. (other, sym (cond-false (c.file / 16 == q) true (is_changed cs q) (ne_eqb (c.file / 16) q other)) ∙ still))
    (cases_eq (c.file / 16) q)

-- no change is of a file whose entry is in a page that none changes
pub unchanged : (changes : List Change) (f : ℕ) → is_changed changes (f / 16) ≡ false → change_of changes f ≡ None
unchanged [] f still = refl
unchanged (c ∷ cs) f still =
    let rest = not_first c cs (f / 16) still in
    cond-false (c.file == f) (Some c) (change_of cs f) (ne_eqb c.file f (λ same. rest.0 (ap (λ (n : ℕ). n / 16) same))) ∙ unchanged cs f rest.1
