use Rattle.std.proofs.Common.{sym, subst, arith}
use Rattle.stores.specs.Opened.{RefusesToOpen}
use Rattle.stores.proofs.Looked.{refuses_look, refuses_none, since_look}
use Rattle.stores.proofs.store.Store.open.Goals as goal

pub returns-then-sectors-eq0 : goal.returns-then-sectors-eq0
returns-then-sectors-eq0 g c = refuses_none g.D.SectorDisk c.args.disk g.met.D.SectorDisk.only_now (omega (arith, c.sectors.ensures, c.if-sectors-eq0.true))

pub returns-in-Ok-true : goal.returns-in-Ok-true
returns-in-Ok-true g c =
    since_look g.D.SectorDisk c.args.disk g.met.D.SectorDisk.only_now c.in-Ok-true.field-0 c.has_pool.new.disk c.in-Ok-true.ensures c.open_pool.result c.open_pool.ensures

pub returns-in-Ok-false : goal.returns-in-Ok-false
returns-in-Ok-false g c =
    since_look g.D.SectorDisk c.args.disk g.met.D.SectorDisk.only_now c.in-Ok-false.field-0 c.has_pool.new.disk c.in-Ok-false.ensures c.open_journal.result c.open_journal.ensures

pub returns-in-Err : goal.returns-in-Err
returns-in-Err g c = subst (λ fault. RefusesToOpen g.D.SectorDisk c.args.disk fault c.has_pool.new.disk) (sym c.from.ensures)
    (refuses_look g.D.SectorDisk c.args.disk g.met.D.SectorDisk.only_now c.in-Err.fault c.has_pool.new.disk c.in-Err.ensures)
