-- A store is opened: all is synced, it is taken up, and then its map is written anew.
use Rattle.std.proofs.Common.{◌≡◌, ◌<◌, ◌+◌, ℕ, not, Result, Ok, refl, sym, ap, subst, ◌∙◌, ⊎_elim, inl, inr, arith}
use Rattle.std.specs.Prelude.{IsErrAnd, MatchResult}
use Rattle.disk_model.proofs.Moments.{asks_none, asks_once, asks_then, asks_wider, then as and_then, wider}
use Rattle.disk_model.specs.{Moments.{AsksOnly, LeavesNow, Nothing, Touches}, Stop.{Image, MayLeave, NamesOnce}, declared.sector_disk.{DiskFault.{DiskFault}, SectorDisk.{Ghosts}}}
use Rattle.directories.specs.Kinds.{IsKind}
use Rattle.pool_journal.proofs.BlockWrites.{of_noted}
use Rattle.pool_journal.specs.{Maps.{entries_of}, Pools.{pool, pool_home_count, pool_named, pool_standing, IsPoolRest}, Sizes.{HasPool}}
use Rattle.pool_journal.specs.{Recovering.{GivesAsNamed, IsGateOrMap, IsGateOrNoted, WritesAnew, layout_in, state_of}, declared.{pool.PoolJournal.{PoolJournal}, sizes.PoolSizes.{PoolSizes}}}
use Rattle.sync_journal.{proofs.{Runs.{of_more, one_more}, Sectors.{same_image, so_before}}, specs.{Layouts.{HomesStandAs, IsSettled}, Runs.{RunsOnDevice}}}
use Rattle.pool_store.proofs.{Blames.{blames_device, told}, Keeping.{keeps_all, keeps_reading, keeps_renewing}, OneKind.{one_kind}, Standing.{said_same, stands_kept}, Taking.{gate_or_maps, still_pool}}
use Rattle.pool_store.specs.{Files.{StandsAs}, Opened.{IsWrittenToOpen, OpensPool, RefusesPool}, Pools.{AreSaid, IsBadPool, files_in_pool}}
use Rattle.pool_store.specs.{Resume.{HasPoolHead, IsAskedIn, IsAskedToOpen, IsReadIn, IsReadOf, IsNoPool, KeepsStore, RefusesToResume, ResumesStore, store_on}, Store.{HasCommitRoom, IsDirectoryOn, layout_of}}
use Rattle.pool_store.specs.declared.{faults.OpenFault.{OpenFault, TheVariants.{Device}}, resuming.Found.{Found}, store.PoolStore.{PoolStore}}

module _ {D : Type 0} (g : Ghosts D) (old : D) (only_now : g.keeps_model old → (image : Image) → g.left_since old (g.moment old) image → MayLeave (g.content old) (g.unsynced old) image) where
  pub not_opened : (fault : OpenFault) (new : D) (r : Result Found OpenFault) → IsErrAnd r (λ f. f ≡ fault) → RefusesPool g old fault new
      → MatchResult r (λ found. OpensPool g old (store_on found new)) (λ f. RefusesPool g old f new)
  not_opened fault new r is refuses = told r fault (λ found. OpensPool g old (store_on found new)) (λ f. RefusesPool g old f new) is refuses

  -- What isn't found was not written.
  pub refused : (fault : OpenFault) (new : D) → RefusesToResume g old fault new → RefusesPool g old fault new
  refused fault new r = record {
    blames = r.blames;
    unwritten = λ keeps other. r.err_run.touches keeps;
    bad_unwritten = λ keeps bad. r.err_run.touches keeps;
    err_closed_unwritten = λ keeps m d kind closed. r.err_run.touches keeps;
    err_run = of_more g Nothing (IsWrittenToOpen (g.sector_count old) (g.content old)) old new (λ k none. absurd none) r.err_run;
    err_stays = r.err_stays;
    err_asks = r.err_asks;
  }

  -- A sync, which asks for no sector
  module _ (mid : D) (syncs : RunsOnDevice g Nothing old mid) (unasked : (k : ℕ) → g.asked mid k ≡ g.asked old k) where
    -- may fail,
    pub refuses_sync : g.failures old < g.failures mid → RefusesPool g old Device mid
    refuses_sync failed = refused Device mid (record {
      blames = blames_device g old mid failed;
      err_run = syncs;
      err_stays = λ m d. keeps_reading g old mid only_now syncs m d (pool_home_count m (g.sector_count old));
      err_asks = λ keeps. asks_none g (IsAskedToOpen (g.sector_count old) (g.content old)) old mid unasked;
    })

    -- and what is found after it stood before it.
    module _ (calm : g.failures mid ≡ g.failures old) where
      before : (P : ℕ → Image → Type 0) → g.keeps_model mid → P (g.sector_count mid) (g.content mid) → P (g.sector_count old) (g.content old)
      before P keeps = so_before g old mid (syncs.touches keeps) P syncs.size

      asked_before : (W : ℕ → Image → ℕ → Type 0) (new : D) → g.keeps_model mid → AsksOnly g (W (g.sector_count mid) (g.content mid)) mid new → AsksOnly g (W (g.sector_count old) (g.content old)) old new
      asked_before W new keeps asks = asks_then g (W (g.sector_count old) (g.content old)) old mid new (asks_none g (W (g.sector_count old) (g.content old)) old mid unasked)
          (before (λ n image. AsksOnly g (W n image) mid new) keeps asks)

      once_before : (W : Image → ℕ → Type 0) (new : D) → g.keeps_model mid → NamesOnce (W (g.content mid)) (g.asked mid) (g.asked new) → NamesOnce (W (g.content old)) (g.asked old) (g.asked new)
      once_before W new keeps once = (let here = before (λ n image. NamesOnce (W image) (g.asked mid) (g.asked new)) keeps once in
          record { each = λ k. ⊎_elim (λ e. inl (e ∙ unasked k)) (λ at. inr (at.0, at.1 ∙ ap (λ n. n + 1) (unasked k))) (here.each k) })

      pub refuses_since : (fault : OpenFault) (new : D) → RefusesToResume g mid fault new → RefusesPool g old fault new
      refuses_since fault new r = refused fault new (record {
        blames = record {
          device = λ is. (let failed = r.blames.device is in omega (arith, failed, calm));
          err_calm = λ other. r.blames.err_calm other ∙ calm;
          bad = λ keeps is. before IsNoPool (r.err_run.kept keeps) (r.blames.bad keeps is);
          memory = λ keeps is. before HasPoolHead (r.err_run.kept keeps) (r.blames.memory keeps is);
        };
        err_run = one_more g Nothing old mid new syncs r.err_run;
        err_stays = λ m d. keeps_reading g old new only_now (one_more g Nothing old mid new syncs r.err_run) m d (pool_home_count m (g.sector_count old));
        err_asks = λ keeps. asked_before IsAskedToOpen new (r.err_run.kept keeps) (r.err_asks keeps);
      })

      pub resumes_since : (store : PoolStore D) → ResumesStore g mid store → ResumesStore g old store
      resumes_since store r = record {
        finds = record {
          ready = r.finds.ready;
          good = λ keeps. before (λ n image. IsBadPool store.journal.sizes.blocks store.directory.pages store.journal.sizes.homes n image → ⊥) (r.run.kept keeps) (r.finds.good keeps);
          map = λ keeps. before (λ n image. GivesAsNamed store.journal.sizes store.journal.map image) (r.run.kept keeps) (r.finds.map keeps);
          synced = r.finds.synced;
          now = λ keeps. before (λ n image. LeavesNow g store.disk (StandsAs (layout_of store) n image)) (r.run.kept keeps) (r.finds.now keeps);
          homes = λ keeps. before (λ n image. LeavesNow g store.disk (HomesStandAs (layout_of store).pages n image)) (r.run.kept keeps) (r.finds.homes keeps);
          stays = keeps_reading g old store.disk only_now (one_more g Nothing old mid store.disk syncs r.run) store.journal.sizes.blocks store.directory.pages store.journal.sizes.homes;
        };
        named = λ keeps. before (λ n image. store.journal.second ≡ pool_named image) (r.run.kept keeps) (r.named keeps);
        run = one_more g Nothing old mid store.disk syncs r.run;
        calm = r.calm ∙ calm;
        asks = λ keeps. asked_before (λ n image. IsAskedIn store.journal.sizes.blocks store.directory.pages store.journal.sizes.homes image) store.disk (r.run.kept keeps) (r.asks keeps);
        once = λ keeps. once_before (IsReadOf store) store.disk (r.run.kept keeps) (r.once keeps);
      }

  -- Then the map is written anew.
  module _ (store : PoolStore D) (f : ResumesStore g old store) (now : PoolJournal) (new : D) {r : Result (Unit {0}) DiskFault} (w : WritesAnew g store.journal now store.disk new r) where
    abbrev sizes : PoolSizes
    sizes = store.journal.sizes

    abbrev m : ℕ
    m = sizes.blocks

    abbrev n : ℕ
    n = sizes.homes

    abbrev d : ℕ
    d = store.directory.pages

    abbrev read : D
    read = store.disk

    held : g.keeps_model new → g.content read ≡ g.content old
    held keeps = same_image g old read (f.run.touches (w.kept keeps))

    written : g.keeps_model new → Touches g (IsGateOrMap m (not (pool_named (g.content old)))) old new
    written keeps = and_then g (IsGateOrMap m (not (pool_named (g.content old)))) old read new
        (wider g Nothing (IsGateOrMap m (not (pool_named (g.content old)))) old read (λ k none. absurd none) (f.run.touches (w.kept keeps)))
        (subst (λ b. Touches g (IsGateOrMap m (not b)) read new) (f.named (w.kept keeps)) (w.touches keeps))

    run : RunsOnDevice g ((pool m n).IsRecovered (g.content old) (g.sector_count old)) old new
    run = record { size = w.size ∙ f.run.size; kept = λ keeps. f.run.kept (w.kept keeps); later = (let first = f.run.later in let second = w.later in omega (arith, first, second)); touches = written }

    idle : g.keeps_model new → (pool m n).IsClosed (g.content old) → Touches g Nothing old new
    idle keeps closed = subst (λ after. Touches g Nothing old after) (sym (w.idle (λ body r below. f.finds.map (w.kept keeps) body r below ∙ closed body r below))) (f.run.touches (w.kept keeps))

    asks : g.keeps_model new → AsksOnly g (IsAskedIn m d n (g.content old)) old new
    asks keeps = asks_then g (IsAskedIn m d n (g.content old)) old read new (f.asks (w.kept keeps))
        (asks_once g (IsAskedIn m d n (g.content old)) (IsGateOrNoted m (not store.journal.second) (entries_of store.journal.map)) read new
        (λ k at. inr (inl (gate_or_maps m (not store.journal.second) (g.content old) k n (⊎_elim (λ gate. inl gate) (λ map. inr (of_noted m (not store.journal.second) (entries_of store.journal.map) k map)) at)))) w.once)

    kind : g.keeps_model new → IsKind m d (g.content old 1)
    kind keeps = subst (λ (image : Image). IsKind m d (image 1)) (held keeps) (f.finds.ready.is.at_rest (w.kept keeps)).kind

    homes : n ≡ pool_home_count m (g.sector_count old)
    homes = f.finds.ready.is.pool.homes ∙ ap (pool_home_count m) f.run.size

    stays : KeepsStore g m d n old new
    stays = keeps_renewing g old read only_now f.run d store.journal now new f.named w

    -- The device fails meanwhile,
    pub refuses_renewal : g.failures read < g.failures new → RefusesPool g old Device new
    refuses_renewal failed = record {
      blames = blames_device g old new (let calm = f.calm in omega (arith, failed, calm));
      unwritten = λ keeps other. absurd (other refl);
      bad_unwritten = λ keeps bad. absurd (f.finds.good (w.kept keeps) (subst (λ k. IsBadPool m d k (g.sector_count old) (g.content old)) (sym homes) (bad m d)));
      err_closed_unwritten = λ keeps a b is closed. idle keeps (subst (λ k. (pool m k).IsClosed (g.content old)) (sym homes)
          (subst (λ x. (pool x (pool_home_count x (g.sector_count old))).IsClosed (g.content old)) (one_kind a b m d (g.content old 1) is (kind keeps)).0 closed));
      err_run = record {
        size = run.size;
        kept = run.kept;
        later = run.later;
        touches = λ keeps. wider g (IsGateOrMap m (not (pool_named (g.content old)))) (IsWrittenToOpen (g.sector_count old) (g.content old)) old new
            (λ k at. (m, d, kind keeps, at)) (written keeps);
      };
      err_stays = keeps_all g m d old new kind (subst (λ k. KeepsStore g m d k old new) homes stays);
      err_asks = λ keeps. asks_wider g (IsAskedIn m d n (g.content old)) (IsAskedToOpen (g.sector_count old) (g.content old)) old new
          (λ k asked. inr (m, d, kind keeps, subst (λ x. IsAskedIn m d x (g.content old) k) homes asked)) (asks keeps);
    }

  -- or the store is opened.
  module _ (store : PoolStore D) (f : ResumesStore g old store) (now : PoolJournal) (new : D) (w : WritesAnew g store.journal now store.disk new (Ok (tt {0}))) where
    back : (P : PoolSizes → Type 0) → P store.journal.sizes → P now.sizes
    back P here = subst P (sym w.sizes) here

    settled : g.keeps_model new → IsSettled (layout_in store.journal.sizes) g (g.sector_count old) (g.content old) (state_of now) new ((layout_in store.journal.sizes).standing (g.content old))
    settled keeps = so_before g old store.disk (f.run.touches (w.kept keeps)) (λ k image. IsSettled (layout_in store.journal.sizes) g k image (state_of now) new ((layout_in store.journal.sizes).standing image)) f.run.size (w.done keeps)

    pub opens : OpensPool g old (record { disk = new; journal = now; directory = store.directory; room = store.room })
    opens = record {
      finds = record {
        ready = record {
          is = record {
            is_journal = w.is;
            pool = back (λ s. HasPool g s new) (still_pool g store.journal.sizes store.disk new w.size f.finds.ready.is.pool);
            is_directory = back (λ s. IsDirectoryOn s.homes store.directory) f.finds.ready.is.is_directory;
            at_rest = λ keeps. (let was = f.finds.ready.is.at_rest (w.kept keeps) in let left = w.done keeps in record {
              rest = back (λ s. IsPoolRest g s.blocks s.homes now.second (entries_of now.map) new) left.rest;
              mark = left.outside 0 (inl (omega arith)) ∙ was.mark;
              kind = back (λ s. IsKind s.blocks store.directory.pages (g.content new 1)) (subst (IsKind store.journal.sizes.blocks store.directory.pages) (sym (left.outside 1 (inl (omega arith)))) was.kind);
              said = back (λ s. AreSaid store.directory.pages (pool_standing s.blocks s.homes (g.content new)) store.directory.entries.items)
                  (said_same store.directory.pages (pool_standing store.journal.sizes.blocks store.journal.sizes.homes (g.content store.disk)) (pool_standing store.journal.sizes.blocks store.journal.sizes.homes (g.content new))
                  (λ h below i inside. left.stands.each h i inside) store.directory.entries.items was.said);
            });
          };
          room = back (λ s. HasCommitRoom s.blocks store.room) f.finds.ready.room;
        };
        good = λ keeps. back (λ s. IsBadPool s.blocks store.directory.pages s.homes (g.sector_count old) (g.content old) → ⊥) (f.finds.good (w.kept keeps));
        map = λ keeps. back (λ s. GivesAsNamed s now.map (g.content old)) (subst (λ map. GivesAsNamed store.journal.sizes map (g.content old)) (sym w.map) (f.finds.map (w.kept keeps)));
        synced = w.synced;
        now = λ keeps. back (λ s. LeavesNow g new (StandsAs (files_in_pool s.blocks store.directory.pages s.homes) (g.sector_count old) (g.content old)))
            (λ image may. stands_kept store.journal.sizes.blocks store.directory.pages store.journal.sizes.homes (g.sector_count old) (g.content old) image ((settled keeps).left image may));
        homes = λ keeps. back (λ s. LeavesNow g new (HomesStandAs (pool s.blocks s.homes) (g.sector_count old) (g.content old))) (settled keeps).left;
        stays = back (λ s. KeepsStore g s.blocks store.directory.pages s.homes old new) (stays store f now new w);
      };
      anew = λ keeps given. w.turned (λ none. given (back (λ s. (pool s.blocks s.homes).IsClosed (g.content old)) (λ body r below. sym (f.finds.map (w.kept keeps) body r below) ∙ none body r below)))
          ∙ ap not (f.named (w.kept keeps));
      run = back (λ s. RunsOnDevice g ((pool s.blocks s.homes).IsRecovered (g.content old) (g.sector_count old)) old new) (run store f now new w);
      closed_unwritten = λ keeps closed. idle store f now new w keeps (subst (λ s. (pool s.blocks s.homes).IsClosed (g.content old)) w.sizes closed);
      calm = w.calm ∙ f.calm;
      asks = λ keeps. back (λ s. AsksOnly g (IsAskedIn s.blocks store.directory.pages s.homes (g.content old)) old new) (asks store f now new w keeps);
      once = λ keeps. record {
        between = g.asked store.disk;
        reads = back (λ s. NamesOnce (IsReadIn s.blocks store.directory.pages s.homes (g.content old)) (g.asked old) (g.asked store.disk)) (f.once (w.kept keeps));
        writes = back (λ s. NamesOnce (IsGateOrNoted s.blocks (not (pool_named (g.content old))) (entries_of now.map)) (g.asked store.disk) (g.asked new))
            (subst (λ map. NamesOnce (IsGateOrNoted store.journal.sizes.blocks (not (pool_named (g.content old))) (entries_of map)) (g.asked store.disk) (g.asked new)) (sym w.map)
            (subst (λ b. NamesOnce (IsGateOrNoted store.journal.sizes.blocks (not b) (entries_of store.journal.map)) (g.asked store.disk) (g.asked new)) (f.named (w.kept keeps)) w.once));
      };
    }
