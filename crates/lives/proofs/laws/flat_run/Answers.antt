use Rattle.lives.proofs.Flat.{flat}
use Rattle.lives.proofs.laws.flat_run.Goals as goal

pub returns : goal.returns
returns g c = flat g.D.SectorDisk g.E.SectorDisk
