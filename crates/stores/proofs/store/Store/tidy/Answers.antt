use Rattle.stores.proofs.{Names.{Ok, sym, subst}, Tidied.{journal_tidied, pool_tidied}}
use Rattle.stores.specs.{Rooms.{TidiesStore}, Store.{IsReadyStore}}
use Rattle.stores.specs.declared.store.Store.TheVariants.{Pool}
use Rattle.stores.proofs.store.Store.tidy.Goals as goal

pub tidy-requires : goal.tidy-requires
tidy-requires g c = record { ready = subst (IsReadyStore g.D.SectorDisk) c.in-Pool.is c.requires }

-- of layout 2
pub returns-in-Journal : goal.returns-in-Journal
returns-in-Journal g c =
    let d = g.D.SectorDisk in
    subst (λ x. TidiesStore d x x (Ok (tt {0}))) (sym c.in-Journal.is)
    (journal_tidied d g.met.D.SectorDisk.counts_now g.met.D.SectorDisk.only_now c.in-Journal.field-0 (subst (IsReadyStore d) c.in-Journal.is c.requires))

-- of layout 4
pub returns-in-Pool : goal.returns-in-Pool
returns-in-Pool g c =
    let d = g.D.SectorDisk in
    subst (λ x. TidiesStore d x (Pool c.tidy.new.self) c.tidy.result) (sym c.in-Pool.is)
    (pool_tidied d g.met.D.SectorDisk.counts_now g.met.D.SectorDisk.only_now c.in-Pool.store c.tidy.new.self c.tidy.result
    (subst (IsReadyStore d) c.in-Pool.is c.requires) c.tidy.ensures)
