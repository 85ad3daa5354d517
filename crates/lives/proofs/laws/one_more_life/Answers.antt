use Rattle.lives.proofs.Lives.{goes_on}
use Rattle.lives.proofs.laws.one_more_life.Goals as goal

pub returns : goal.returns
returns g c = goes_on g.D.SectorDisk g.E.SectorDisk
