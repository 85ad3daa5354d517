use Rattle.machine.proofs.HardwareTells.{fetch_granted, load_granted, store_granted}
use Rattle.machine.proofs.laws.hardware_goes_on.Goals as goal

pub returns-clause-load : goal.returns-clause-load
returns-clause-load g c = load_granted g.D.SectorDisk g.E.SectorDisk

pub returns-clause-fetch : goal.returns-clause-fetch
returns-clause-fetch g c = fetch_granted g.D.SectorDisk g.E.SectorDisk

pub returns-clause-store : goal.returns-clause-store
returns-clause-store g c = λ old new pid addr stored width aligned runs done. store_granted g.D.SectorDisk g.E.SectorDisk old new pid addr stored width aligned runs done.sound done.does
