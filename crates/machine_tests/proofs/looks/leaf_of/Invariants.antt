use Rattle.inspection.specs.{Machines.{memory_of}, Walks.{IsStepOfSome}}
use Rattle.machine_tests.proofs.looks.leaf_of.Given as goal

abbrev pub invariant-loop-step : goal.invariant-loop-step
invariant-loop-step g l = IsStepOfSome (memory_of l.machine) l.page l.step

abbrev pub decreases-loop-step : goal.decreases-loop-step
decreases-loop-step g l = l.step.level
