use Rattle.lives.proofs.{Lives.{lives_leave, lives_most}, NewStores.{upgrade_stands}}
use Rattle.lives.proofs.laws.upgraded_lives.Goals as goal

pub returns-clause-stands : goal.returns-clause-stands
returns-clause-stands g c = λ sectors before lives image store.
    lives_leave g.D.SectorDisk g.E.SectorDisk sectors before lives store.first image
    (upgrade_stands store.store store.old_sectors sectors before.files before.pages store.old store.first store.stood store.made) store.lived

pub returns-clause-most : goal.returns-clause-most
returns-clause-most g c = λ sectors before lives image store. lives_most g.D.SectorDisk g.E.SectorDisk sectors lives store.first image store.lived
