use Rattle.std.proofs.Common.{sym, subst, arith}
use Rattle.stores.specs.Resumed.{RefusesToResume}
use Rattle.stores.proofs.Looked.{refuses_to_resume_look, refuses_to_resume_none, resumed_since_look}
use Rattle.stores.proofs.store.Store.resume.Goals as goal

pub returns-then-sectors-eq0 : goal.returns-then-sectors-eq0
returns-then-sectors-eq0 g c = refuses_to_resume_none g.D.SectorDisk c.args.disk g.met.D.SectorDisk.only_now (omega (arith, c.sectors.ensures, c.if-sectors-eq0.true))

pub returns-in-Ok-true : goal.returns-in-Ok-true
returns-in-Ok-true g c =
    resumed_since_look g.D.SectorDisk c.args.disk g.met.D.SectorDisk.only_now c.in-Ok-true.field-0 c.has_pool.new.disk c.in-Ok-true.ensures c.resume_pool.result c.resume_pool.ensures

pub returns-in-Ok-false : goal.returns-in-Ok-false
returns-in-Ok-false g c =
    resumed_since_look g.D.SectorDisk c.args.disk g.met.D.SectorDisk.only_now c.in-Ok-false.field-0 c.has_pool.new.disk c.in-Ok-false.ensures c.resume_journal.result
    c.resume_journal.ensures

pub returns-in-Err : goal.returns-in-Err
returns-in-Err g c = subst (λ fault. RefusesToResume g.D.SectorDisk c.args.disk fault c.has_pool.new.disk) (sym c.from.ensures)
    (refuses_to_resume_look g.D.SectorDisk c.args.disk g.met.D.SectorDisk.only_now c.in-Err.fault c.has_pool.new.disk c.in-Err.ensures)
