use Rattle.std.proofs.Common.{ℕ, List, Option, refl, ap, ◌∙◌, inl}
use Rattle.std.proofs.lemmas.Result.{on_ok_weaker}
use Rattle.vm_types.specs.declared.file.FileInfo.{FileInfo}
use Rattle.disk_model.{proofs.{Moments.{asks_wider, weaker}, Naming.{once_wider}}, specs.{Moments.{LeavesNow}, Stop.{Image}}}
use Rattle.sync_journal.specs.Layouts.{HomesStandAs}
use Rattle.pool_journal.{proofs.Tidied.{tidied_used}, specs.{Maps.{entries_of}, Pools.{pool, IsPoolUsed}, Tidying.{IsTidied}, declared.pool.PoolJournal.{PoolJournal}}}
use Rattle.file_store.proofs.Reading.{has_content}
use Rattle.pool_store.{proofs.{Ready.{in_blocks_weaker, ready_tidied}, Standing.{stands_kept}}, specs.{Files.{StandsFor}, Pools.{files_in_pool}}}
use Rattle.pool_store.proofs.store.PoolStore.tidy.Goals as goal

pub returns : goal.returns
returns g c =
    let d = g.D.SectorDisk in
    let e = c.tidy.ensures in
    let result = c.tidy.result in
    let store = c.args.self.now in
    let m = store.journal.sizes.blocks in
    let n = store.journal.sizes.homes in
    let second = store.journal.second in
    let was = entries_of store.journal.map in
    let sectors = d.sector_count store.disk in
    let old = d.content store.disk in
    let new = c.tidy.new.disk in
    let used = tidied_used m second was c.requires.ready.is_journal.sized.0 in
    let Stands : (ℕ → Option FileInfo) → (ℕ → ℕ → List ℕ) → Image → Type 0 = StandsFor (files_in_pool m store.directory.pages n) sectors in
    let stays : (files : ℕ → Option FileInfo) (before : ℕ → ℕ → List ℕ) → LeavesNow d store.disk (Stands files before) → (image : Image) → HomesStandAs (pool m n) sectors old image → Stands files before image
    = λ files before left image kept. stands_kept m store.directory.pages n sectors old image kept files before (has_content d store.disk (Stands files before) left) in
    record {
      ok = λ k files before left. on_ok_weaker result (λ settled image may. stays files before left image (settled.left image may)) (e.settled k);
      homes = λ k. on_ok_weaker result (λ settled. settled.left) (e.settled k);
      ready = ready_tidied d store new c.tidy.new.self result c.requires.ready e;
      none = e.none;
      room = e.all;
      synced = e.synced;
      any_moment = λ k files before left. weaker d store.disk new (HomesStandAs (pool m n) sectors old) (Stands files before) (stays files before left) (e.any_moment k);
      homes_moment = e.any_moment;
      blocks = λ k files before left. in_blocks_weaker d m second was (HomesStandAs (pool m n) sectors old) (Stands files before) store.disk new (stays files before left) (e.blocks k);
      homes_blocks = e.blocks;
      idle = λ none.
          let same = e.idle none in
          ap (λ disk. record { disk = disk; journal = c.tidy.new.self; directory = store.directory; room = store.room }) same.0
          ∙ ap (λ (journal : PoolJournal). record { disk = store.disk; journal = journal; directory = store.directory; room = store.room }) same.1;
      files = refl;
      sizes = e.sizes;
      size = e.size;
      kept = e.kept;
      single = on_ok_weaker result (λ none a b r s low below same. inl (none a r low)) e.none;
      asks_device = asks_wider d (IsTidied m second was) (IsPoolUsed m second was) store.disk new used e.asks;
      asks_tidied = e.asks;
      once = λ single. once_wider (IsTidied m second was) (IsPoolUsed m second was) (d.asked store.disk) (d.asked new) used (e.once single);
      touches = e.touches;
      cause = record { later = e.later; failed = e.failed; calm = e.calm };
    }
