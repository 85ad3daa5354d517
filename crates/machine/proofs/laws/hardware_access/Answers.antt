use Rattle.machine.proofs.Hardware.{carried}
use Rattle.machine.proofs.laws.hardware_access.Goals as goal

pub returns : goal.returns
returns g c = carried g.D.SectorDisk g.E.SectorDisk (λ d i k left. g.met.D.SectorDisk.only_now d i k left)
