-- A list of sectors that all have the same bytes.
use Rattle.{std.{proofs.{Common.{◌≡◌, ◌<◌, ◌+◌, ℕ, Bool, true, false, if◌then◌else◌, List, [], ◌∷◌, ◌++◌, refl, sym, ap, ◌∙◌, ⊎_elim, eq-eqb, arith}, lemmas.Bool.{cases_eq}}, specs.Prelude.{◌==◌}}, disk_model.specs.Plan.{first_listed}}

-- a choice more at the end
listed_last : (list : List (ℕ × List ℕ)) (i k : ℕ) (bytes other : List ℕ)
    → first_listed (list ++ (i, bytes) ∷ []) k other ≡ first_listed list k (if i == k then bytes else other)
listed_last [] i k bytes other = refl
listed_last (choice ∷ list) i k bytes other = ap (λ (rest : List ℕ). if choice.0 == k then choice.1 else rest) (listed_last list i k bytes other)

either : (b : Bool) (bytes : List ℕ) → (if b then bytes else bytes) ≡ bytes
either true bytes = refl
either false bytes = refl

here : (i k : ℕ) (bytes other : List ℕ) → k ≡ i → (if i == k then bytes else other) ≡ bytes
here i k bytes other is = ap (λ (b : Bool). if b then bytes else other) (eq-eqb i k (sym is))

-- The first sectors, so many, are listed with these bytes, and no sector with others.
pub record AreListed (list : List (ℕ × List ℕ)) (count : ℕ) (bytes : List ℕ) : Type 0 where
  pub listed : (k : ℕ) (other : List ℕ) → k < count → first_listed list k other ≡ bytes
  pub same : (k : ℕ) → first_listed list k bytes ≡ bytes

pub none_listed : (list : List (ℕ × List ℕ)) (bytes : List ℕ) → list ≡ [] → AreListed list 0 bytes
none_listed list bytes is = record { listed = λ k other lt. absurd (omega (arith, lt)); same = λ k. ap (λ (l : List (ℕ × List ℕ)). first_listed l k bytes) is }

pub one_more_listed : (list : List (ℕ × List ℕ)) (count : ℕ) (bytes : List ℕ) → AreListed list count bytes → AreListed (list ++ (count, bytes) ∷ []) (count + 1) bytes
one_more_listed list count bytes before = record {
  listed = λ k other lt. listed_last list count k bytes other ∙ ⊎_elim
      (λ is. ap (first_listed list k) (here count k bytes other is) ∙ before.same k)
      (λ ne. before.listed k (if count == k then bytes else other) (omega (arith, lt, ne)))
      (cases_eq k count);
  same = λ k. listed_last list count k bytes bytes ∙ ap (first_listed list k) (either (count == k) bytes) ∙ before.same k;
}
