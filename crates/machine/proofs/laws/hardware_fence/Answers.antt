use Rattle.machine.proofs.Hardware.{fenced}
use Rattle.machine.proofs.laws.hardware_fence.Goals as goal

pub returns : goal.returns
returns g c = fenced g.D.SectorDisk g.E.SectorDisk
