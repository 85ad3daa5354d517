use Rattle.sync_plans.{proofs.{Names.{inl, sym, subst, LeavesOnly, weaker, StandsFor, StandsForEither, disk_of}, Runs.{opened_anew, while_opening, told_so, stays_found, stays_refused}}, specs.Requests.{OpensStore, StaysStore}}
use Rattle.sync_plans.proofs.requests.open.Goals as goal

pub returns-in-Ok-clause-stays : goal.returns-in-Ok-clause-stays
returns-in-Ok-clause-stays g c =
    let disk = g.D.SectorDisk in
    subst (λ d. StaysStore disk c.args.disk d) (sym c.into_disk.ensures)
    (stays_found disk c.args.disk (disk_of c.in-Ok.store) c.in-Ok.ensures.run c.requires c.in-Ok.ensures.good_layout c.in-Ok.ensures.good_journal)

pub returns-in-Err-clause-stays : goal.returns-in-Err-clause-stays
returns-in-Err-clause-stays g c = stays_refused g.D.SectorDisk c.args.disk _ c.in-Err.ensures.err_run c.requires c.in-Err.ensures.bad_unwritten

pub returns-in-Ok-clause-any_moment : goal.returns-in-Ok-clause-any_moment
returns-in-Ok-clause-any_moment g c = λ k files before left.
    let disk = g.D.SectorDisk in
    let e = c.into_disk.ensures in
    let k1 = subst disk.keeps_model e k in
    let sectors = disk.sector_count c.args.disk in
    let mid = disk_of c.in-Ok.store in
    subst (λ d. LeavesOnly disk c.args.disk d (StandsForEither sectors files before before)) (sym e)
    (weaker disk c.args.disk mid (StandsFor sectors files before) (StandsForEither sectors files before before) (λ image s. inl s)
    (while_opening disk sectors files before c.args.disk mid left (c.in-Ok.ensures.run.any_moment k1 (c.requires (c.in-Ok.ensures.run.kept k1)))))

pub returns-in-Err-clause-any_moment : goal.returns-in-Err-clause-any_moment
returns-in-Err-clause-any_moment g c = λ k files before left.
    let disk = g.D.SectorDisk in
    let sectors = disk.sector_count c.args.disk in
    weaker disk c.args.disk _ (StandsFor sectors files before) (StandsForEither sectors files before before) (λ image s. inl s)
    (while_opening disk sectors files before c.args.disk _ left (c.in-Err.ensures.err_run.any_moment k (c.requires (c.in-Err.ensures.err_run.kept k))))

pub returns-in-Ok-clause-opens : goal.returns-in-Ok-clause-opens
returns-in-Ok-clause-opens g c = λ k.
    let disk = g.D.SectorDisk in
    let k1 = subst disk.keeps_model c.into_disk.ensures k in
    subst (λ d. OpensStore disk c.args.disk d) (sym c.into_disk.ensures) (record {
      store = record { layout = c.in-Ok.ensures.good_layout k1; journal = c.in-Ok.ensures.good_journal k1 };
      closed = c.in-Ok.ensures.emptied k1;
      anew = opened_anew disk c.args.disk c.in-Ok.store c.in-Ok.ensures k1;
      synced = c.in-Ok.ensures.synced k1;
      outside = c.in-Ok.ensures.run.outside k1;
    })

pub returns-in-Err-clause-refused : goal.returns-in-Err-clause-refused
returns-in-Err-clause-refused g c =
    let u = c.unopened.ensures in
    told_so g.D.SectorDisk c.args.disk _ _ c.unopened.result c.in-Err.ensures u.device u.layout u.journal u.memory u.pages u.read_only
