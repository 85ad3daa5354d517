use Rattle.stores.{proofs.{Names.{sym, subst}, KindOpens.{resumes, refuses_resume}}, specs.Resumed.{RefusesToResume}}
use Rattle.stores.proofs.resuming.resume_journal.Goals as goal

pub returns-in-Ok : goal.returns-in-Ok
returns-in-Ok g c = resumes g.D.SectorDisk c.args.disk c.requires.unmarked g.met.D.SectorDisk.only_now c.in-Ok.store c.in-Ok.ensures

pub returns-in-Err : goal.returns-in-Err
returns-in-Err g c = subst (λ fault. RefusesToResume g.D.SectorDisk c.args.disk fault c.in-Err.disk) (sym c.from.ensures)
    (refuses_resume g.D.SectorDisk c.args.disk c.requires.unmarked g.met.D.SectorDisk.only_now c.in-Err.fault c.in-Err.disk c.in-Err.ensures)
