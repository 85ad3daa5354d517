use Rattle.sync_plans.proofs.{Names.{ℕ, ap, ◌∙◌, subst, Option, FileInfo}, Runs.{found_store, told_so, same_files}}
use Rattle.sync_plans.proofs.requests.facts.Goals as goal

pub returns-in-Ok-clause-facts : goal.returns-in-Ok-clause-facts
returns-in-Ok-clause-facts g c = λ k. c.file-info.ensures
    ∙ ap (λ (files : ℕ → Option FileInfo). files c.args.file) (same_files g.D.SectorDisk c.args.disk c.in-Ok.store c.in-Ok.ensures (subst g.D.SectorDisk.keeps_model c.into_disk.ensures k))

pub returns-in-Ok-clause-store : goal.returns-in-Ok-clause-store
returns-in-Ok-clause-store g c = λ k. found_store g.D.SectorDisk c.args.disk c.in-Ok.store c.in-Ok.ensures (subst g.D.SectorDisk.keeps_model c.into_disk.ensures k)

pub returns-in-Err-clause-refused : goal.returns-in-Err-clause-refused
returns-in-Err-clause-refused g c =
    let u = c.unopened.ensures in
    told_so g.D.SectorDisk c.args.disk _ _ c.unopened.result c.in-Err.ensures.refused u.device u.layout u.journal u.memory u.pages u.read_only
