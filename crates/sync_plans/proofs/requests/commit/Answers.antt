use Rattle.sync_plans.proofs.{Names.{ℕ, Option, inr, refl, sym, subst, ◌∙◌, FileInfo, LeavesOnly, LeavesNow, StandsFor, ArePages, StandsForEither, HasReadOnly, disk_of, files_of, capacity_pages}}
use Rattle.sync_plans.{proofs.{Freed.{fits, freed_size, kept_outside, stays_committed, stays_freed, then_committed, when_freed}, Runs.{same_capacity, same_files, outside_then, committed_outside, found_store, told_so, stays_found, stays_refused}}, specs.{Pages.{lent_page}, Requests.{CommitsStore, KeepsOutside, StaysStore}}}
use Rattle.sync_plans.proofs.requests.commit.Goals as goal

pub commit-committed-requires-clause-pages : goal.commit-committed-requires-clause-pages
commit-committed-requires-clause-pages g c = fits c.in-Ok.store c.make_room_for.new.self c.capacity_pages.result c.args.pages.now c.in-Ok-check_pages.ensures.good c.make_room_for.ensures.files c.in-Ok-make_room_for.ensures.room

pub returns-in-Ok-committed-clause-commits : goal.returns-in-Ok-committed-clause-commits
returns-in-Ok-committed-clause-commits g c = λ k.
    let disk = g.D.SectorDisk in
    let e = c.into_disk-disk.ensures in
    let k3 = subst disk.keeps_model e k in
    let k2 = c.commit-committed.ensures.kept k3 in
    let k1 = c.make_room_for.ensures.kept k2 in
    let old = c.args.disk in
    let store = c.in-Ok.store in
    let freed = c.make_room_for.new.self in
    let mid = disk_of freed in
    let new = disk_of c.commit-committed.new.self in
    let sectors = disk.sector_count old in
    let found = c.in-Ok.ensures in
    let frees = c.make_room_for.ensures.frees in
    let size = freed_size disk old store freed _ found frees c.requires.synced in
    let given = lent_page c.args.source.pages.now in
    let same = same_files disk old store found k1 in
    subst (λ d. CommitsStore disk old d c.args.pages.now given) (sym e) (record {
      store = found_store disk old store found k1;
      writable = record {
        pages = subst (λ (files : ℕ → Option FileInfo). ArePages files (capacity_pages sectors (disk.content old)) c.args.pages.now) same
            (subst (λ (most : ℕ). ArePages (files_of store) most c.args.pages.now) (c.capacity_pages.ensures ∙ same_capacity disk old store found k1) c.in-Ok-check_pages.ensures.good);
        written = λ has. c.in-Ok-check_pages.ensures.written (subst (λ (files : ℕ → Option FileInfo). HasReadOnly files c.args.pages.now) (sym same) has);
      };
      ok = λ files before after left changes.
          let now = when_freed disk old store freed _ found frees c.requires.synced k2 files before left in
          subst (λ (s : ℕ). LeavesNow disk new (StandsFor s files after)) size
          (c.in-Ok-committed.ensures.ok k3 tt files before after (subst (λ (s : ℕ). LeavesNow disk mid (StandsFor s files before)) (sym size) now) changes);
      synced = c.in-Ok-committed.ensures.synced k3;
      any_moment = λ files before after left changes.
          let now = when_freed disk old store freed _ found frees c.requires.synced k2 files before left in
          then_committed disk old store freed _ found frees c.requires.synced k2 files before left after new
          (subst (λ (s : ℕ). LeavesOnly disk mid new (StandsForEither s files before after)) size
          (c.commit-committed.ensures.any_moment k3 tt files before after (subst (λ (s : ℕ). LeavesNow disk mid (StandsFor s files before)) (sym size) now) changes));
      outside = outside_then sectors (disk.content old) (disk.content mid) (disk.content new) (kept_outside disk old store freed _ found frees c.requires.synced k2)
          (subst (λ (s : ℕ). KeepsOutside s (disk.content mid) (disk.content new)) size
          (committed_outside disk freed c.in-Ok-make_room_for.ensures.ready k2 c.args.pages.now given (disk.content new) (c.in-Ok-committed.ensures.homes k3 tt (disk.content new) (record { kept = λ n. inr refl }))));
    })

pub returns-in-Ok-committed-clause-stays : goal.returns-in-Ok-committed-clause-stays
returns-in-Ok-committed-clause-stays g c =
    let disk = g.D.SectorDisk in
    subst (λ d. StaysStore disk c.args.disk d) (sym c.into_disk-disk.ensures)
    (stays_committed disk c.args.disk c.in-Ok.store c.make_room_for.new.self _ c.in-Ok.ensures c.make_room_for.ensures.frees c.requires.synced (disk_of c.commit-committed.new.self) c.args.pages.now (lent_page c.args.source.pages.now)
    c.in-Ok-check_pages.ensures.good.distinct c.commit-committed.ensures.size c.commit-committed.ensures.kept (λ k files before after left changes. c.commit-committed.ensures.any_moment k tt files before after left changes))

pub returns-in-Err-committed-clause-stays : goal.returns-in-Err-committed-clause-stays
returns-in-Err-committed-clause-stays g c =
    let disk = g.D.SectorDisk in
    subst (λ d. StaysStore disk c.args.disk d) (sym c.into_disk-disk.ensures)
    (stays_committed disk c.args.disk c.in-Ok.store c.make_room_for.new.self _ c.in-Ok.ensures c.make_room_for.ensures.frees c.requires.synced (disk_of c.commit-committed.new.self) c.args.pages.now (lent_page c.args.source.pages.now)
    c.in-Ok-check_pages.ensures.good.distinct c.commit-committed.ensures.size c.commit-committed.ensures.kept (λ k files before after left changes. c.commit-committed.ensures.any_moment k tt files before after left changes))

pub returns-in-Err-make_room_for-clause-stays : goal.returns-in-Err-make_room_for-clause-stays
returns-in-Err-make_room_for-clause-stays g c =
    let disk = g.D.SectorDisk in
    subst (λ d. StaysStore disk c.args.disk d) (sym c.into_disk-in-Err-make_room_for.ensures)
    (stays_freed disk c.args.disk c.in-Ok.store c.make_room_for.new.self _ c.in-Ok.ensures c.make_room_for.ensures.frees c.requires.synced)

pub returns-in-Err-check_pages-clause-stays : goal.returns-in-Err-check_pages-clause-stays
returns-in-Err-check_pages-clause-stays g c =
    let disk = g.D.SectorDisk in
    let found = c.in-Ok.ensures in
    subst (λ d. StaysStore disk c.args.disk d) (sym c.into_disk.ensures)
    (stays_found disk c.args.disk (disk_of c.in-Ok.store) found.run c.requires.synced found.good_layout found.good_journal)

pub returns-in-Err-clause-stays : goal.returns-in-Err-clause-stays
returns-in-Err-clause-stays g c = stays_refused g.D.SectorDisk c.args.disk _ c.in-Err.ensures.refused.err_run c.requires.synced c.in-Err.ensures.refused.bad_unwritten

pub returns-in-Err-check_pages-clause-refused : goal.returns-in-Err-check_pages-clause-refused
returns-in-Err-check_pages-clause-refused g c =
    let disk = g.D.SectorDisk in
    let u = c.untaken.ensures in
    let store = c.in-Ok.store in
    let found = c.in-Ok.ensures in
    let same = same_files disk c.args.disk store found in
    let most = capacity_pages (disk.sector_count c.args.disk) (disk.content c.args.disk) in
    record {
      cause = λ is. absurd (u.device is);
      layout = λ k is. absurd (u.layout is);
      journal = λ k is. absurd (u.journal is);
      memory = λ k is. absurd (u.memory is);
      pages = λ is k pages.
          let k1 = subst disk.keeps_model c.into_disk.ensures k in
          c.in-Err-check_pages.ensures.bad_pages (u.pages is) (subst (λ (n : ℕ). ArePages (files_of store) n c.args.pages.now) (sym (c.capacity_pages.ensures ∙ same_capacity disk c.args.disk store found k1))
          (subst (λ (files : ℕ → Option FileInfo). ArePages files most c.args.pages.now) (sym (same k1)) pages));
      read_only = λ is k.
          let k1 = subst disk.keeps_model c.into_disk.ensures k in
          let has = c.in-Err-check_pages.ensures.read_only (u.read_only is) in
          record {
            pages = subst (λ (files : ℕ → Option FileInfo). ArePages files most c.args.pages.now) (same k1)
                (subst (λ (n : ℕ). ArePages (files_of store) n c.args.pages.now) (c.capacity_pages.ensures ∙ same_capacity disk c.args.disk store found k1) has.0);
            read_only = subst (λ (files : ℕ → Option FileInfo). HasReadOnly files c.args.pages.now) (same k1) has.1;
          };
    }

pub returns-in-Err-clause-refused : goal.returns-in-Err-clause-refused
returns-in-Err-clause-refused g c =
    let u = c.unopened.ensures in
    told_so g.D.SectorDisk c.args.disk _ _ c.unopened.result c.in-Err.ensures.refused u.device u.layout u.journal u.memory u.pages u.read_only
