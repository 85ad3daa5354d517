use Rattle.stores.proofs.{Committing.{of_journal, of_pool}, Names.{sym, subst}}
use Rattle.stores.specs.{Commit.{CommitsPages}, Store.{IsReadyStore}}
use Rattle.stores.specs.declared.store.Store.TheVariants.{Journal, Pool}
use Rattle.stores.proofs.store.Store.commit.Goals as goal

-- of layout 2
pub returns-in-Journal : goal.returns-in-Journal
returns-in-Journal g c =
    let d = g.D.SectorDisk in
    let s = g.S.PageSource in
    let list = c.args.pages.now in
    let given = c.args.source.now in
    subst (λ x. CommitsPages d s x (Journal c.commit.new.self) list given c.commit.new.source c.commit.result) (sym c.in-Journal.is)
    (of_journal d s list given c.commit.new.source c.commit.result g.met.D.SectorDisk.only_now c.in-Journal.store c.commit.new.self (subst (IsReadyStore d) c.in-Journal.is c.requires.ready) c.commit.ensures)

-- of layout 4
pub returns-in-Pool : goal.returns-in-Pool
returns-in-Pool g c =
    let d = g.D.SectorDisk in
    let s = g.S.PageSource in
    let list = c.args.pages.now in
    let given = c.args.source.now in
    subst (λ x. CommitsPages d s x (Pool c.commit-in-Pool.new.self) list given c.commit-in-Pool.new.source c.commit-in-Pool.result) (sym c.in-Pool.is)
    (of_pool d s list given c.commit-in-Pool.new.source c.commit-in-Pool.result g.met.D.SectorDisk.only_now c.in-Pool.store c.commit-in-Pool.new.self
    (subst (IsReadyStore d) c.in-Pool.is c.requires.ready) c.commit-in-Pool.ensures)
