use Rattle.stores.proofs.{Names.{sym, subst}, PagesRead.{kind_page, pool_page}}
use Rattle.{file_store.specs.Standing.{IsPageOf}, stores.specs.Store.{files_of, IsReadyStore, ReadsFilePage}}
use Rattle.stores.specs.declared.store.Store.TheVariants.{Journal, Pool}
use Rattle.stores.proofs.store.Store.read_page.Goals as goal

pub read_page-requires-clause-ready : goal.read_page-requires-clause-ready
read_page-requires-clause-ready g c = (subst (IsReadyStore g.D.SectorDisk) c.in-Journal.is c.requires.ready).0

pub read_page-requires-clause-inside : goal.read_page-requires-clause-inside
read_page-requires-clause-inside g c = subst (λ store. IsPageOf (files_of store) c.args.page.file c.args.page.page) c.in-Journal.is c.requires.inside

pub read_page-requires-in-Pool-clause-ready : goal.read_page-requires-in-Pool-clause-ready
read_page-requires-in-Pool-clause-ready g c = subst (IsReadyStore g.D.SectorDisk) c.in-Pool.is c.requires.ready

pub read_page-requires-in-Pool-clause-inside : goal.read_page-requires-in-Pool-clause-inside
read_page-requires-in-Pool-clause-inside g c = subst (λ store. IsPageOf (files_of store) c.args.page.file c.args.page.page) c.in-Pool.is c.requires.inside

pub returns-in-Journal : goal.returns-in-Journal
returns-in-Journal g c =
    let d = g.D.SectorDisk in
    let after = c.read_page in
    subst (λ old. ReadsFilePage d old (Journal after.new.self) c.args.page after.new.to after.result) (sym c.in-Journal.is)
    (kind_page d c.args.page after.new.to after.result c.in-Journal.store after.new.self (subst (IsReadyStore d) c.in-Journal.is c.requires.ready) after.ensures)

pub returns-in-Pool : goal.returns-in-Pool
returns-in-Pool g c =
    let d = g.D.SectorDisk in
    let after = c.read_page-in-Pool in
    subst (λ old. ReadsFilePage d old (Pool after.new.self) c.args.page after.new.to after.result) (sym c.in-Pool.is)
    (pool_page d c.args.page after.new.to after.result c.in-Pool.store after.new.self (subst (IsReadyStore d) c.in-Pool.is c.requires.ready) after.ensures)
