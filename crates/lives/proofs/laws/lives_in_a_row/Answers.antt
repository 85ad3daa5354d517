use Rattle.lives.proofs.Lives.{lives_leave, lives_most}
use Rattle.lives.proofs.laws.lives_in_a_row.Goals as goal

pub returns-clause-stands : goal.returns-clause-stands
returns-clause-stands g c = lives_leave g.D.SectorDisk g.E.SectorDisk

pub returns-clause-most : goal.returns-clause-most
returns-clause-most g c = lives_most g.D.SectorDisk g.E.SectorDisk
