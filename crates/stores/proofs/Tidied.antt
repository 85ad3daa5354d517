-- A store that is tidied: of layout 2 nothing is done, and of a pool what its crate does.
use Rattle.stores.proofs.Names.{ℕ, ◌≡◌, ◌≤◌, ◌*◌, ◌∙◌, List, Option, Result, Ok, Err, OnOk, refl, sym, ap, subst, inr, arith, true≢false, Ghosts, Image, MayLeave, LeavesNow, LeavesOnly, weaker}
use Rattle.std.proofs.lemmas.Result.{on_ok_weaker}
use Rattle.vm_types.specs.declared.file.FileInfo.{FileInfo}
use Rattle.disk_model.specs.declared.sector_disk.DiskFault.{DiskFault}
use Rattle.pool_journal.{proofs.AllFree.{all_counted, none_left}, specs.{Journal.{free_count}, Maps.{entries_of}, Pools.{IsSingle, pool_entry}, Recovering.{GivesNone}}}
use Rattle.pool_journal.specs.declared.sizes.PoolSizes.{PoolSizes}
use Rattle.file_store.specs.declared.store.FileStore.{FileStore}
use Rattle.pool_store.specs.Files as InPool
use Rattle.pool_store.specs.Tidying as PoolTidied
use Rattle.pool_store.specs.{Pools.{files_in_pool}, Store.{IsReadyPool}}
use Rattle.pool_store.specs.declared.store.PoolStore.{PoolStore}
use Rattle.stores.proofs.{Front.{most_committed}, PoolOpens.{by_head}, RoomMade.{files_in_blocks, none_freed, now_too}, Says.{from_pool, head_of, to_pool, left_of_pool}}
use Rattle.stores.specs.{Commit.{KeepsHomesIn}, Images.{ImageSays, IsClosed, StandsFor}, Rooms.{FreesSlots, TidiesStore}, Store.{kept_of, IsReadyStore}}
use Rattle.stores.specs.declared.store.Store.TheVariants.{Journal, Pool}

-- what follows from two things that are so after Ok is so after it
both_ok : {T E P Q R : Type 0} (r : Result T E) → (P → Q → R) → OnOk r P → OnOk r Q → OnOk r R
both_ok (Ok value) from p q = from p q
both_ok (Err fault) from p q = tt

module _ {D : Type 0} (g : Ghosts D)
    (counts_now : (d : D) (t : ℕ) (c : Image) → g.keeps_model d → t ≤ g.moment d → MayLeave (g.content d) (g.unsynced d) c → g.left_since d t c)
    (only_now : (d : D) (image : Image) → g.keeps_model d → g.left_since d (g.moment d) image → MayLeave (g.content d) (g.unsynced d) image) where
  -- of layout 2
  pub journal_tidied : (store : FileStore D) → IsReadyStore g (Journal store) → TidiesStore g (Journal store) (Journal store) (Ok (tt {0}))
  journal_tidied store ready = record {
    frees = none_freed g counts_now only_now (Journal store) ready;
    tidy = refl;
    closed = λ keeps marked. absurd (true≢false (sym marked ∙ ready.1 keeps));
    idle = λ tidy. refl;
    synced = λ keeps k unsynced. (unsynced, refl);
  }

  -- of layout 4
  module _ (old new : PoolStore D) (result : Result (Unit {0}) DiskFault) (ready : IsReadyPool g old) (e : PoolTidied.TidiesStore g old new result) where
    abbrev sectors : ℕ
    sectors = g.sector_count old.disk

    abbrev m : ℕ
    m = old.journal.sizes.blocks

    abbrev d : ℕ
    d = old.directory.pages

    abbrev n : ℕ
    n = old.journal.sizes.homes

    -- what it stood for it stood for by the words of its layout, and so it does at every moment
    moment : g.keeps_model new.disk → (files : ℕ → Option FileInfo) (pages : ℕ → ℕ → List ℕ)
        → LeavesNow g old.disk (StandsFor sectors files pages) → LeavesOnly g old.disk new.disk (StandsFor sectors files pages)
    moment keeps files pages left = weaker g old.disk new.disk (InPool.StandsFor (files_in_pool m d n) sectors files pages) (StandsFor sectors files pages)
        (λ image. from_pool m d n sectors ready.pool.homes files pages image)
        (e.any_moment keeps files pages (λ image may. to_pool m d n sectors ready.pool.homes files pages image (left_of_pool g old ready (e.kept keeps) image may) (left image may)))

    -- its sizes are kept
    in_sizes : (P : PoolSizes → Type 0) → P old.journal.sizes → P new.journal.sizes
    in_sizes P = subst P (sym e.sizes)

    -- where no slot is given none is by the map that the gate names
    none_named : IsReadyPool g new → GivesNone new.journal.sizes.blocks (entries_of new.journal.map) → g.keeps_model new.disk
        → IsClosed (g.sector_count new.disk) (g.content new.disk)
    none_named is none keeps =
        let blocks = new.journal.sizes.blocks in
        let homes = new.journal.sizes.homes in
        let image = g.content new.disk in
        let rest = (is.at_rest keeps).rest in
        by_head blocks new.directory.pages homes (g.sector_count new.disk) is.pool.homes image (head_of g new is keeps) (λ (said : ImageSays). said.IsClosed)
        (λ body r below. ap (λ second. pool_entry blocks homes second image body r) rest.gate ∙ rest.map body r below ∙ none body r below)

    frees : FreesSlots g (Pool old) (Pool new) result
    frees = record {
      ready = e.ready;
      stands = λ keeps files pages left. now_too g counts_now old.disk new.disk (StandsFor sectors files pages) keeps (moment keeps files pages left);
      any_moment = moment;
      blocks = λ keeps. files_in_blocks g (Pool old) new.disk ready (e.kept keeps) (e.homes_blocks keeps);
      homes = λ keeps. now_too g counts_now old.disk new.disk (KeepsHomesIn (kept_of (Pool old)) sectors (g.content old.disk)) keeps (e.homes_moment keeps);
      homes_moment = e.homes_moment;
      homes_blocks = e.homes_blocks;
      most_moment = λ keeps. most_committed g (Pool old) new.disk only_now ready (e.kept keeps) (e.touches keeps);
      always = ap (λ (sizes : PoolSizes). 504 * sizes.blocks) e.sizes;
      files = ap inr e.files;
      size = e.size;
      kept = e.kept;
      single = λ was. on_ok_weaker result (in_sizes (λ sizes. IsSingle sizes.blocks (entries_of new.journal.map))) e.single;
      asks = e.asks_device;
      asks_tidied = e.asks_tidied;
      once = e.once;
      touches = e.touches;
      cause = e.cause;
    }

    pub pool_tidied : TidiesStore g (Pool old) (Pool new) result
    pool_tidied = record {
      frees = frees;
      tidy = on_ok_weaker result (in_sizes (λ sizes. free_count sizes.blocks (entries_of new.journal.map) ≡ 2 * (504 * sizes.blocks))) e.room;
      closed = λ keeps. both_ok result (λ is none marked. none_named is none keeps) e.ready
          (on_ok_weaker result (in_sizes (λ sizes. GivesNone sizes.blocks (entries_of new.journal.map))) e.none);
      idle = λ tidy. ap Pool (e.idle (none_left m (entries_of old.journal.map) (omega (arith, tidy))));
      synced = λ keeps. on_ok_weaker result (λ still k unsynced. (let was = still k unsynced in (was.0, all_counted m (entries_of old.journal.map) was.1))) (e.synced keeps);
    }
