use Rattle.sync_plans.proofs.Names.{ℕ, inl, sym, subst, LeavesOnly, weaker, IsClosed, StandsFor, StandsForEither, disk_of}
use Rattle.sync_plans.{proofs.{Freed.{freed_size, kept_mark, kept_outside, stays_freed, tidied_closed, while_freed}, Runs.{found_store, while_opening, told_so, stays_refused}}, specs.Requests.{StaysStore, TidiesOn}}
use Rattle.sync_plans.proofs.requests.tidy.Goals as goal

pub returns-in-Ok-tidied-clause-stays : goal.returns-in-Ok-tidied-clause-stays
returns-in-Ok-tidied-clause-stays g c =
    let disk = g.D.SectorDisk in
    subst (λ d. StaysStore disk c.args.disk d) (sym c.into_disk-disk.ensures)
    (stays_freed disk c.args.disk c.in-Ok.store c.tidy-tidied.new.self _ c.in-Ok.ensures c.tidy-tidied.ensures.frees c.requires)

pub returns-in-Err-tidied-clause-stays : goal.returns-in-Err-tidied-clause-stays
returns-in-Err-tidied-clause-stays g c =
    let disk = g.D.SectorDisk in
    subst (λ d. StaysStore disk c.args.disk d) (sym c.into_disk-disk.ensures)
    (stays_freed disk c.args.disk c.in-Ok.store c.tidy-tidied.new.self _ c.in-Ok.ensures c.tidy-tidied.ensures.frees c.requires)

pub returns-in-Err-clause-stays : goal.returns-in-Err-clause-stays
returns-in-Err-clause-stays g c = stays_refused g.D.SectorDisk c.args.disk _ c.in-Err.ensures.refused.err_run c.requires c.in-Err.ensures.refused.bad_unwritten

pub returns-in-Ok-tidied-clause-any_moment : goal.returns-in-Ok-tidied-clause-any_moment
returns-in-Ok-tidied-clause-any_moment g c = λ k files before left.
    let disk = g.D.SectorDisk in
    let e = c.into_disk-disk.ensures in
    let sectors = disk.sector_count c.args.disk in
    let new = disk_of c.tidy-tidied.new.self in
    subst (λ d. LeavesOnly disk c.args.disk d (StandsForEither sectors files before before)) (sym e)
    (weaker disk c.args.disk new (StandsFor sectors files before) (StandsForEither sectors files before before) (λ image s. inl s)
    (while_freed disk c.args.disk c.in-Ok.store c.tidy-tidied.new.self _ c.in-Ok.ensures c.tidy-tidied.ensures.frees c.requires (subst disk.keeps_model e k) files before left))

pub returns-in-Err-tidied-clause-any_moment : goal.returns-in-Err-tidied-clause-any_moment
returns-in-Err-tidied-clause-any_moment g c = λ k files before left.
    let disk = g.D.SectorDisk in
    let e = c.into_disk-disk.ensures in
    let sectors = disk.sector_count c.args.disk in
    let new = disk_of c.tidy-tidied.new.self in
    subst (λ d. LeavesOnly disk c.args.disk d (StandsForEither sectors files before before)) (sym e)
    (weaker disk c.args.disk new (StandsFor sectors files before) (StandsForEither sectors files before before) (λ image s. inl s)
    (while_freed disk c.args.disk c.in-Ok.store c.tidy-tidied.new.self _ c.in-Ok.ensures c.tidy-tidied.ensures.frees c.requires (subst disk.keeps_model e k) files before left))

pub returns-in-Err-clause-any_moment : goal.returns-in-Err-clause-any_moment
returns-in-Err-clause-any_moment g c = λ k files before left.
    let disk = g.D.SectorDisk in
    let sectors = disk.sector_count c.args.disk in
    weaker disk c.args.disk _ (StandsFor sectors files before) (StandsForEither sectors files before before) (λ image s. inl s)
    (while_opening disk sectors files before c.args.disk _ left (c.in-Err.ensures.refused.err_run.any_moment k (c.requires (c.in-Err.ensures.refused.err_run.kept k))))

pub returns-in-Ok-tidied-clause-tidies : goal.returns-in-Ok-tidied-clause-tidies
returns-in-Ok-tidied-clause-tidies g c = λ k.
    let disk = g.D.SectorDisk in
    let e = c.into_disk-disk.ensures in
    let k2 = subst disk.keeps_model e k in
    let k1 = c.tidy-tidied.ensures.kept k2 in
    let old = c.args.disk in
    let store = c.in-Ok.store in
    let tidied = c.tidy-tidied.new.self in
    let found = c.in-Ok.ensures in
    let frees = c.tidy-tidied.ensures.frees in
    subst (λ d. TidiesOn disk old d) (sym e) (record {
      store = found_store disk old store found k1;
      closed = subst (λ (s : ℕ). IsClosed s (disk.content (disk_of tidied))) (freed_size disk old store tidied _ found frees c.requires)
          (tidied_closed disk store tidied (disk.content old) found.ready k1 (found.named k1) c.tidy-tidied.ensures.idle (kept_mark disk old store tidied _ found frees c.requires k2) (c.in-Ok-tidied.ensures.closed k2));
      synced = λ n unsynced. found.synced k1 n (c.in-Ok-tidied.ensures.synced k2 n unsynced).0;
      outside = kept_outside disk old store tidied _ found frees c.requires k2;
    })

pub returns-in-Err-clause-refused : goal.returns-in-Err-clause-refused
returns-in-Err-clause-refused g c =
    let u = c.unopened.ensures in
    told_so g.D.SectorDisk c.args.disk _ _ c.unopened.result c.in-Err.ensures.refused u.device u.layout u.journal u.memory u.pages u.read_only
