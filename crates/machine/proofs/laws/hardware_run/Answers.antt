use Rattle.machine.proofs.Hardware.{does_each, runs}
use Rattle.machine.proofs.laws.hardware_run.Goals as goal

pub returns-clause-does : goal.returns-clause-does
returns-clause-does g c = does_each g.D.SectorDisk g.E.SectorDisk (λ d i k left. g.met.D.SectorDisk.only_now d i k left)

pub returns-clause-run : goal.returns-clause-run
returns-clause-run g c = runs g.D.SectorDisk g.E.SectorDisk (λ d i k left. g.met.D.SectorDisk.only_now d i k left)
