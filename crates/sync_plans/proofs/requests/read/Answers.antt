use Rattle.sync_plans.proofs.{Names.{ℕ, IsTrue, Option, inr, refl, sym, ap, subst, ◌∙◌, rules, FileInfo, IsPageOf, disk_of, standing_page}, Runs.{when_open, same_files, found_store, told_so}}
use Rattle.sync_plans.proofs.requests.read.Goals as goal

pub returns-in-Ok-read-clause-page : goal.returns-in-Ok-read-clause-page
returns-in-Ok-read-clause-page g c = λ k files pages left inside.
    let device = g.D.SectorDisk in
    let disk = disk_of c.in-Ok.store in
    let k2 = subst device.keeps_model c.into_disk-disk.ensures k in
    let opened = when_open device (device.sector_count c.args.disk) files pages c.args.disk disk left (c.in-Ok.ensures.now (c.read_page-read.ensures.kept k2)) in
    let stands = opened (device.content disk) (record { kept = λ n. inr refl }) in
    c.in-Ok-read.ensures.page k2
    ∙ ap (λ (sectors : ℕ). standing_page sectors (device.content disk) c.args.page.file c.args.page.page) c.in-Ok.ensures.run.size
    ∙ stands.same c.args.page.file c.args.page.page inside

pub returns-in-Ok-read-clause-inside : goal.returns-in-Ok-read-clause-inside
returns-in-Ok-read-clause-inside g c = λ k.
    let k1 = c.read_page-read.ensures.kept (subst g.D.SectorDisk.keeps_model c.into_disk-disk.ensures k) in
    let is : IsTrue c.check_page.result = search rules in
    subst (λ (files : ℕ → Option FileInfo). IsPageOf files c.args.page.file c.args.page.page) (same_files g.D.SectorDisk c.args.disk c.in-Ok.store c.in-Ok.ensures k1) (c.check_page.ensures.0 is)

pub returns-then-not-check_page-clause-refused : goal.returns-then-not-check_page-clause-refused
returns-then-not-check_page-clause-refused g c = record {
  cause = search rules;
  layout = search rules;
  journal = search rules;
  memory = search rules;
  pages = λ is k inside.
      let k1 = subst g.D.SectorDisk.keeps_model c.into_disk.ensures k in
      let not : IsTrue c.check_page.result → ⊥ = search rules in
      not (c.check_page.ensures.1 (subst (λ (files : ℕ → Option FileInfo). IsPageOf files c.args.page.file c.args.page.page)
      (sym (same_files g.D.SectorDisk c.args.disk c.in-Ok.store c.in-Ok.ensures k1)) inside));
  read_only = search rules;
}

pub returns-in-Ok-read-clause-store : goal.returns-in-Ok-read-clause-store
returns-in-Ok-read-clause-store g c = λ k.
    found_store g.D.SectorDisk c.args.disk c.in-Ok.store c.in-Ok.ensures (c.read_page-read.ensures.kept (subst g.D.SectorDisk.keeps_model c.into_disk-disk.ensures k))

pub returns-in-Err-clause-refused : goal.returns-in-Err-clause-refused
returns-in-Err-clause-refused g c =
    let u = c.unopened.ensures in
    told_so g.D.SectorDisk c.args.disk _ _ c.unopened.result c.in-Err.ensures.refused u.device u.layout u.journal u.memory u.pages u.read_only
