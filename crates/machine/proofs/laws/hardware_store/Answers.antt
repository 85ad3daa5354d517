use Rattle.machine.proofs.Hardware.{stored_after, stored_frame}
use Rattle.machine.proofs.laws.hardware_store.Goals as goal

pub returns-clause-frame : goal.returns-clause-frame
returns-clause-frame g c = stored_frame g.D.SectorDisk g.E.SectorDisk

pub returns-clause-after : goal.returns-clause-after
returns-clause-after g c = stored_after g.D.SectorDisk g.E.SectorDisk
