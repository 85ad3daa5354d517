-- The machine stays one that may go on.
use Rattle.machine.specs.Machine.{IsSoundMachine}
use Rattle.machine_tests.proofs.bench.carry_out.Given as goal

abbrev pub invariant-loop-act : goal.invariant-loop-act
invariant-loop-act g l = IsSoundMachine g.D.SectorDisk g.E.SectorDisk l.machine
