-- What a commit of either kind of store does, in the words of both.
use Rattle.stores.proofs.Names.{ℕ, ◌≤◌, ◌*◌, false, List, Option, Result, ◌≡◌, ◌∙◌, ⊎_elim, inl, inr, refl, sym, ap, subst, arith, Ghosts, Image, LeavesNow, MayLeave, weaker}
use Rattle.stores.proofs.{Front.{front_kept, most_committed}, Heads.{same_mark}, Says.{from_kind, to_kind, from_pool, to_pool, left_of_kind, left_of_pool}}
use Rattle.std.{proofs.lemmas.Result.{on_ok_weaker}}
use Rattle.vm_types.specs.declared.file.{FileInfo.{FileInfo}, FilePage.{FilePage}}
use Rattle.sync_journal.specs.declared.{faults.CommitFault.{CommitFault}, source.PageSource.{Ghosts as SourceGhosts}}
use Rattle.pool_journal.specs.{Journal.{free_count}, Maps.{entries_of}, Pools.{IsSingle}}
use Rattle.pool_journal.specs.declared.{map.SlotMap.{SlotMap}, sizes.PoolSizes.{PoolSizes}}
use Rattle.file_store.specs.Commit as KindCommit
use Rattle.file_store.specs.Standing as InFiles
use Rattle.file_store.specs.declared.store.FileStore.{FileStore}
use Rattle.pool_store.proofs.Ready.{in_blocks_weaker}
use Rattle.pool_store.specs.Commit as PoolCommit
use Rattle.pool_store.specs.Files as InPool
use Rattle.pool_store.specs.{Pools.{files_in_pool}, Store.{IsReadyPool}}
use Rattle.pool_store.specs.declared.store.PoolStore.{PoolStore}
use Rattle.stores.specs.{Commit.{CommitsPages}, Images.{is_pool, StandsFor, StandsForEither}, Store.{kept_of, IsReadyStore}}
use Rattle.stores.specs.declared.store.Store.TheVariants.{Journal, Pool}

-- as many slots are free where sizes and map are the same
same_free : (a b : PoolSizes) (map was : SlotMap) → a ≡ b → map ≡ was → free_count a.blocks (entries_of map) ≡ free_count b.blocks (entries_of was)
same_free a b map was sizes is = ap (λ (x : PoolSizes). free_count x.blocks (entries_of map)) sizes ∙ ap (λ (x : SlotMap). free_count b.blocks (entries_of x)) is

module _ {D S : Type 0} (g : Ghosts D) (s : SourceGhosts S) (list : List FilePage) (given given' : S) (result : Result (Unit {0}) CommitFault)
    (only_now : (d : D) (image : Image) → g.keeps_model d → g.left_since d (g.moment d) image → MayLeave (g.content d) (g.unsynced d) image) where
  -- a store of layout 2
  module _ (old new : FileStore D) (ready : IsReadyStore g (Journal old)) (e : KindCommit.CommitsPages g s old new list given given' result) where
    abbrev n : ℕ
    n = g.sector_count old.disk

    -- what it stood for it stood for by the words of its layout
    kind_left : g.keeps_model new.disk → (files : ℕ → Option FileInfo) (before : ℕ → ℕ → List ℕ)
        → LeavesNow g old.disk (StandsFor n files before) → LeavesNow g old.disk (InFiles.StandsFor n files before)
    kind_left keeps files before left image may = to_kind n files before image (left_of_kind g old ready (e.kept keeps) image may) (left image may)

    -- the mark is none of a pool still
    unmarked : g.keeps_model new.disk → is_pool (g.content new.disk) ≡ false
    unmarked keeps = ⊎_elim (λ written. absurd (front_kept (kept_of (Journal old)) 0 (omega arith) written))
        (λ same. same_mark (g.content old.disk) (g.content new.disk) same ∙ ready.1 (e.kept keeps)) ((e.touches keeps).content 0)

    -- so this is what its commit does
    pub of_journal : CommitsPages g s (Journal old) (Journal new) list given given' result
    of_journal = record {
      ok = λ keeps gives files before after left changes. on_ok_weaker result (λ now image may. from_kind n files after image (now image may))
          (e.ok keeps gives files before after (kind_left keeps files before left) changes);
      synced = e.synced;
      ready = on_ok_weaker result (λ is. (is, unmarked)) e.ready;
      room = on_ok_weaker result (λ is few. omega arith) e.ready;
      any_moment = λ keeps gives files before after left changes.
          weaker g old.disk new.disk (KindCommit.StandsForEither n files before after) (StandsForEither n files before after)
          (λ image. ⊎_elim (λ was. inl (from_kind n files before image was)) (λ is. inr (from_kind n files after image is)))
          (e.any_moment keeps gives files before after (kind_left keeps files before left) changes);
      blocks = λ keeps gives files before after left changes. tt;
      most_moment = λ keeps. most_committed g (Journal old) new.disk only_now ready (e.kept keeps) (e.touches keeps);
      homes = e.homes;
      homes_moment = e.homes_moment;
      source_homes = e.source_homes;
      source = λ keeps told files before left. weaker g old.disk new.disk (InFiles.StandsFor n files before) (StandsFor n files before)
          (from_kind n files before) (e.source keeps told files before (kind_left keeps files before left));
      source_now = λ keeps told files before left image may.
          from_kind n files before image (e.source_now keeps told files before (kind_left keeps files before left) image may);
      ready_after_source = λ told. (e.ready_after_source told, unmarked);
      room_after_source = λ told. refl;
      files = ap inl e.files;
      always = refl;
      size = e.size;
      kept = e.kept;
      asks = e.asks;
      single = λ none. on_ok_weaker result (λ is. tt) e.ready;
      asks_device = e.asks_device;
      asks_staged = e.asks_device;
      once = e.once;
      touches = e.touches;
      causes = e.causes;
    }

  -- a store of layout 4
  module _ (old new : PoolStore D) (ready : IsReadyPool g old) (e : PoolCommit.CommitsToPool g s old new list given given' result) where
    abbrev sectors : ℕ
    sectors = g.sector_count old.disk

    abbrev m : ℕ
    m = old.journal.sizes.blocks

    abbrev d : ℕ
    d = old.directory.pages

    abbrev homes : ℕ
    homes = old.journal.sizes.homes

    -- what it stood for it stood for by the words of its layout
    pool_left : g.keeps_model new.disk → (files : ℕ → Option FileInfo) (before : ℕ → ℕ → List ℕ)
        → LeavesNow g old.disk (StandsFor sectors files before) → LeavesNow g old.disk (InPool.StandsFor (files_in_pool m d homes) sectors files before)
    pool_left keeps files before left image may =
        to_pool m d homes sectors ready.pool.homes files before image (left_of_pool g old ready (e.kept keeps) image may) (left image may)

    -- and what stands for files by them stands for them by the words of both
    from : (files : ℕ → Option FileInfo) (pages : ℕ → ℕ → List ℕ) (image : Image)
        → InPool.StandsFor (files_in_pool m d homes) sectors files pages image → StandsFor sectors files pages image
    from files pages image stands = from_pool m d homes sectors ready.pool.homes files pages image stands

    -- so this is what its commit does
    pub of_pool : CommitsPages g s (Pool old) (Pool new) list given given' result
    of_pool = record {
      ok = λ keeps gives files before after left changes. on_ok_weaker result (λ now image may. from files after image (now image may))
          (e.ok keeps gives files before after (pool_left keeps files before left) changes);
      synced = e.synced;
      ready = e.ready;
      room = on_ok_weaker result (λ room few. subst (λ (x : PoolSizes). 504 * m ≤ free_count x.blocks (entries_of new.journal.map)) (sym e.sizes) (room few)) e.room;
      any_moment = λ keeps gives files before after left changes.
          weaker g old.disk new.disk (InPool.StandsForEither (files_in_pool m d homes) sectors files before after) (StandsForEither sectors files before after)
          (λ image. ⊎_elim (λ was. inl (from files before image was)) (λ is. inr (from files after image is)))
          (e.any_moment keeps gives files before after (pool_left keeps files before left) changes);
      blocks = λ keeps gives files before after left changes. in_blocks_weaker g m old.journal.second (entries_of old.journal.map)
          (InPool.StandsForEither (files_in_pool m d homes) sectors files before after) (StandsForEither sectors files before after) old.disk new.disk
          (λ image. ⊎_elim (λ was. inl (from files before image was)) (λ is. inr (from files after image is)))
          (e.blocks keeps gives files before after (pool_left keeps files before left) changes);
      most_moment = λ keeps. most_committed g (Pool old) new.disk only_now ready (e.kept keeps) (e.touches keeps);
      homes = e.homes;
      homes_moment = e.homes_moment;
      source_homes = e.source_homes;
      source = λ keeps told files before left. weaker g old.disk new.disk (InPool.StandsFor (files_in_pool m d homes) sectors files before) (StandsFor sectors files before)
          (from files before) (e.source keeps told files before (pool_left keeps files before left));
      source_now = λ keeps told files before left image may.
          from files before image (e.source_now keeps told files before (pool_left keeps files before left) image may);
      ready_after_source = e.ready_after_source;
      room_after_source = λ told. same_free new.journal.sizes old.journal.sizes new.journal.map old.journal.map e.sizes (e.map_after_source told);
      files = ap inr e.files;
      always = ap (λ (x : PoolSizes). 504 * x.blocks) e.sizes;
      size = e.size;
      kept = e.kept;
      asks = e.asks;
      single = λ one. on_ok_weaker result (λ single. subst (λ (x : PoolSizes). IsSingle x.blocks (entries_of new.journal.map)) (sym e.sizes) single) (e.single one);
      asks_device = e.asks_device;
      asks_staged = e.asks_staged;
      once = e.once;
      touches = e.touches;
      causes = e.causes;
    }
