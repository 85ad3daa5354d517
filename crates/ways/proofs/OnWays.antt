-- How the way to a page goes on.
use Rattle.{std.{proofs.Common.{◌≡◌, ◌<◌, ℕ, ◌+◌, Option, Some, None, refl, sym, ap, ◌∙◌, arith, eq-eqb, ne_eqb, unwrap_or, if◌then◌else◌}, specs.Prelude.{IfSome, IfNone}}, inspection.specs.{Machines.{memory_of, Tells}, Walks.{IsNextStep, IsStep, IsStepOfSome}, declared.walks.Step.{Step}}}
use Rattle.machine.specs.declared.machine.Machine.{Machine}
use Rattle.sv39_walk.specs.declared.pte.Pte.{Pte}
use Rattle.ways.specs.WaySteps.{entry_of_step}

-- what is told after a step of some process is so of each that has it
pub goes_on : {D E : Type 0} (m : Machine D E) (pid page : ℕ) (step : Step) (N : Type 0) (next : Option Step) → Tells m (IsStepOfSome (memory_of m) page) N next
    → IfSome next (IsNextStep (memory_of m) page step) → IsStep (memory_of m) pid page step
    → Tells m (λ s. IsStep (memory_of m) pid page s × (s.level + 1 ≡ step.level)) N next
goes_on m pid page step N None tells follows is = record { running = tt; some = tt; none = tells.none }
goes_on m pid page step N (Some s) tells follows is = record { running = tells.running; some = (follows.each pid is, follows.lower); none = tt }

no_entry : (last : Option Step) → ((step : Step) → last ≡ Some step → 0 < step.level) → 0 ≡ entry_of_step last
no_entry None above = refl
no_entry (Some step) above = sym (ap (λ b. if b then step.entry.0 else 0) (ne_eqb step.level 0 (λ e. let high = above step refl in omega (arith, e, high))))

-- the entry at the end of a way, where there is one, and else 0
pub ended : (last : Option Step) (entry : Option Pte) → IfSome entry (λ e. (step : Step) × (last ≡ Some step) × (step.level ≡ 0) × (step.entry ≡ e))
    → IfNone entry ((step : Step) → last ≡ Some step → 0 < step.level) → (unwrap_or entry (record { 0 = 0 })).0 ≡ entry_of_step last
ended last None some none = no_entry last none
ended last (Some e) some none =
    sym (ap entry_of_step some.1 ∙ ap (λ b. if b then some.0.entry.0 else 0) (eq-eqb some.0.level 0 some.2) ∙ ap (λ p. p.0) some.3)
