use Rattle.lives.proofs.Lives.{still_stands}
use Rattle.lives.proofs.laws.lives_boot.Goals as goal

pub returns-clause-layout : goal.returns-clause-layout
returns-clause-layout g c = λ before lives store holds. (still_stands g.D.SectorDisk g.E.SectorDisk before lives store holds).2.layout

pub returns-clause-journal : goal.returns-clause-journal
returns-clause-journal g c = λ before lives store holds. (still_stands g.D.SectorDisk g.E.SectorDisk before lives store holds).2.journal
