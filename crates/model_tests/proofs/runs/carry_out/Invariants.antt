-- The machine stays one that may go on.
use Rattle.machine.specs.Machine.{IsSoundMachine}
use Rattle.model_tests.proofs.runs.carry_out.Given as goal

abbrev pub invariant-loop : goal.invariant-loop
invariant-loop g l = IsSoundMachine g.D.SectorDisk g.E.SectorDisk l.machine
