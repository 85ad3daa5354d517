use Rattle.machine.proofs.HardwareTells.{fetch_told, load_told}
use Rattle.machine.proofs.laws.hardware_tells.Goals as goal

pub returns-clause-load : goal.returns-clause-load
returns-clause-load g c = load_told g.D.SectorDisk g.E.SectorDisk (λ d i k left. g.met.D.SectorDisk.only_now d i k left)

pub returns-clause-fetch : goal.returns-clause-fetch
returns-clause-fetch g c = fetch_told g.D.SectorDisk g.E.SectorDisk (λ d i k left. g.met.D.SectorDisk.only_now d i k left)
