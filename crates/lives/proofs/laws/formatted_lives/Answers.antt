use Rattle.lives.proofs.{Lives.{lives_leave, lives_most}, NewStores.{stands_for_sources}}
use Rattle.lives.proofs.laws.formatted_lives.Goals as goal

pub returns-clause-stands : goal.returns-clause-stands
returns-clause-stands g c = λ sectors sources lives image store.
    let new = stands_for_sources g.R.Read.remaining sectors sources store.first store.store store.made in
    (new.0, new.1, lives_leave g.D.SectorDisk g.E.SectorDisk sectors new.0 lives store.first image new.2 store.lived)

pub returns-clause-most : goal.returns-clause-most
returns-clause-most g c = λ sectors sources lives image store. lives_most g.D.SectorDisk g.E.SectorDisk sectors lives store.first image store.lived
