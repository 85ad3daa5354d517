use Rattle.swap.specs.Slots.{IsReady}
use Rattle.memory_tests.proofs.slots.carry_out.Given as goal

abbrev pub invariant-loop-step : goal.invariant-loop-step
invariant-loop-step g l = IsReady g.D.SectorDisk l.swap
