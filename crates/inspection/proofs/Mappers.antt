-- The first page of some kind, process by process: over a frame, or in a slot.
use Rattle.inspection.proofs.Names.{top_level, ◌≡◌, ℕ, ◌≤◌, ◌<◌, ◌≢◌, true, false, refl, sym, ◌∙◌, subst, inl, inr, arith, cases_eq, nat_tests, ◌==◌, if◌then◌else◌, IsOver, Picture, IsPage}
use Rattle.inspection.specs.{Frames.{IsBefore, IsAtOrAfter, IsMapper}, declared.frame_views.Mapper.{Mapper}}
use Rattle.residency.specs.declared.leaves.Change.TheVariants as Kinds

low_here : (number pid page low : ℕ) → low ≡ (if number == pid then page else 0) → number ≡ pid → low ≡ page
low_here number pid page low is same = let test : (number == pid) ≡ true = grind (arith, nat_tests, same) in is ∙ rw test refl

low_later : (number pid page low : ℕ) → low ≡ (if number == pid then page else 0) → number ≢ pid → low ≡ 0
low_later number pid page low is other = let test : (number == pid) ≡ false = grind (arith, nat_tests, other) in is ∙ rw test refl

-- the first page of the kind in the first process that has one
module _ (top : ℕ) (Has : ℕ → ℕ → Type 0) (pid page number low : ℕ) (least : pid ≤ number) (is : low ≡ (if number == pid then page else 0))
    (passed : (p k : ℕ) → p < number → IsAtOrAfter pid page p k → IsPage top k → Has p k → ⊥) where
  from_low : (p k : ℕ) → p ≡ number → IsAtOrAfter pid page p k → low ≤ k
  from_low p k at (inl here) = let e = low_here number pid page low is (sym at ∙ here.0) in omega (arith, e, here.1)
  from_low p k at (inr later) = let e = low_later number pid page low is (λ same. omega (arith, at, same, later)) in omega (arith, e)

  from_page : (k : ℕ) → low ≤ k → IsAtOrAfter pid page number k
  from_page k le = elim (cases_eq number pid) [
    | inl same ↦ inl (same, (let e = low_here number pid page low is same in omega (arith, e, le)))
    | inr other ↦ inr (omega (arith, least, other))
  ]

  first_low : (p k : ℕ) → p ≡ number → IsAtOrAfter number low p k → low ≤ k
  first_low p k at (inl here) = here.1
  first_low p k at (inr later) = absurd (omega (arith, at, later))

  first_from : (p k : ℕ) → p ≡ number → IsAtOrAfter number low p k → IsAtOrAfter pid page p k
  first_from p k at from = let P : ℕ → Type 0 = λ x. IsAtOrAfter pid page x k in subst P (sym at) (from_page k (first_low p k at from))

  first_none : (q j : ℕ) → q ≡ number → ((p k : ℕ) → IsAtOrAfter number low p k → IsBefore q j p k → IsPage top k → Has p k → ⊥)
      → (p k : ℕ) → IsAtOrAfter pid page p k → IsBefore q j p k → IsPage top k → Has p k → ⊥
  first_none q j at none p k from before inside has = elim before [
    | inl earlier ↦ passed p k (omega (arith, earlier, at)) from inside has
    | inr same ↦ none p k (inl (same.0 ∙ at, from_low p k (same.0 ∙ at) from)) (inr same) inside has
  ]

-- it is over a frame
module _ {mode : ℕ} (c : Picture mode) (n pid page number low : ℕ) (least : pid ≤ number) (is : low ≡ (if number == pid then page else 0))
    (passed : (p k : ℕ) → p < number → IsAtOrAfter pid page p k → IsPage (top_level mode) k → IsOver c Kinds.Forget n p k → ⊥) where
  pub mapper_on : (m : Mapper) → m.pid ≡ number → IsMapper c n number low m → IsMapper c n pid page m
  mapper_on m at first = record {
    holds = first.holds;
    from = first_from (top_level mode) (IsOver c Kinds.Forget n) pid page number low least is passed m.pid m.page at first.from;
    over = first.over;
    entry = first.entry;
    none_before = first_none (top_level mode) (IsOver c Kinds.Forget n) pid page number low least is passed m.pid m.page at first.none_before;
  }

-- no page of one process comes before the first of it
pub only_first : (Has : ℕ → ℕ → Type 0) (number low pid page : ℕ) → pid ≡ number → ((j : ℕ) → low ≤ j → j < page → Has pid j → ⊥)
    → (p k : ℕ) → IsAtOrAfter number low p k → IsBefore pid page p k → Has p k → ⊥
only_first Has number low pid page at none p k (inl here) (inl earlier) has = omega (arith, here.0, earlier, at)
only_first Has number low pid page at none p k (inr later) (inl earlier) has = omega (arith, later, earlier, at)
only_first Has number low pid page at none p k (inr later) (inr same) has = omega (arith, later, same.0, at)
only_first Has number low pid page at none p k (inl here) (inr same) has = let P : ℕ → Type 0 = λ x. Has x k in none k here.1 same.1 (subst P same.0 has)
