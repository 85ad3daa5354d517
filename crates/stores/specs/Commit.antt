-- Pages of files, changed all at once: failure-atomic msync (Park, Kelly and Shen, EuroSys 2013).
use Rattle.std.specs.Prelude.{ℕ, ◌<◌, ◌≤◌, ◌≡◌, ◌⊎◌, List, length, slice_get, Option, Some, Result, OnOk, IsErrOf}
use Rattle.vm_types.specs.declared.file.{FileInfo.{FileInfo}, FilePage.{FilePage}}
use Rattle.disk_model.specs.{Moments.{Touches, AsksOnly, LeavesOnly, LeavesNow}, Stop.{Image}}
use Rattle.disk_model.specs.declared.sector_disk.SectorDisk.{Ghosts}
use Rattle.sync_journal.specs.{Commit.{one_journal}, Journal.{live_homes}, Layouts.{HomesStandAs}, Source.{HasCauses, Asks}}
use Rattle.sync_journal.specs.declared.faults.CommitFault.{CommitFault}
use Rattle.sync_journal.specs.declared.faults.CommitFault.TheVariants.{Source}
use Rattle.sync_journal.specs.declared.source.PageSource.{Ghosts as SourceGhosts}
use Rattle.pool_journal.specs.{Committing.{IsPoolStaged, PoolCommitsInBlocks}, Gates.{IsPoolGate}, Maps.{entries_of}, Pools.{pool, IsSingle}, Recovering.{state_of}}
use Rattle.file_store.specs.{Commit.{Changes}, Standing.{IsPageOf}}
use Rattle.file_store.specs.Store as InFiles
use Rattle.pool_store.specs.{Commit.{PutsHomes as PoolPuts}, Places.{homes_of_pages as pool_homes}, Pools.{files_in_pool}}
use Rattle.stores.specs.Images.{StandsFor, StandsForEither, SaysMostOf}
use Rattle.stores.specs.Store.{StoreKept, StoreKept.{OfJournal, OfPool}, disk_of, kept_of, directory_of, free_of, always_free_in, IsUsedIn, IsCommittedIn, IsReadyStore}
use Rattle.stores.specs.declared.store.Store.{Store}

-- one page at least, and so many at most, inside their files, none twice
pub record ArePages (files : ℕ → Option FileInfo) (most : ℕ) (list : List FilePage) : Type 0 where
  pub some : 1 ≤ length list
  pub few : length list ≤ most
  pub inside : (i : ℕ) (p : FilePage) → slice_get list i ≡ Some p → IsPageOf files p.file p.page
  pub distinct : (i j : ℕ) (p : FilePage) → i < j → slice_get list i ≡ Some p → slice_get list j ≡ Some p → ⊥

-- The pages of a list stand for their homes, with zeros past their files' ends, and every other home stands as it did; or all homes stand as they did;
-- or either of both.
abbrev pub PutsHomesIn : StoreKept → ℕ → List FilePage → (ℕ → List ℕ) → Image → Image → Type 0
PutsHomesIn (OfJournal directory journal) sectors list given old new = InFiles.PutsHomes sectors directory list given old new
PutsHomesIn (OfPool directory journal) sectors list given old new =
    PoolPuts (files_in_pool journal.sizes.blocks directory.pages journal.sizes.homes) sectors directory list given old new

abbrev pub KeepsHomesIn : StoreKept → ℕ → Image → Image → Type 0
KeepsHomesIn (OfJournal directory journal) sectors old new = HomesStandAs one_journal sectors old new
KeepsHomesIn (OfPool directory journal) sectors old new = HomesStandAs (pool journal.sizes.blocks journal.sizes.homes) sectors old new

abbrev pub PutsHomesOrNone : StoreKept → ℕ → List FilePage → (ℕ → List ℕ) → Image → Image → Type 0
PutsHomesOrNone kept sectors list given old new = KeepsHomesIn kept sectors old new ⊎ PutsHomesIn kept sectors list given old new

-- a sector that a commit of these pages may ask for: of a pool slots in use only where these and the pages are more than a body has
abbrev pub IsStagedIn : StoreKept → List FilePage → ℕ → Type 0
IsStagedIn (OfJournal directory journal) list k = one_journal.IsCommitted (live_homes journal) k
IsStagedIn (OfPool directory journal) list k = IsPoolGate k
    ⊎ IsPoolStaged journal.sizes.blocks journal.second (entries_of journal.map) (pool_homes directory list) k

-- no home has two slots of a pool
abbrev pub IsSingleIn : StoreKept → Type 0
IsSingleIn (OfJournal directory journal) = Unit {0}
IsSingleIn (OfPool directory journal) = IsSingle journal.sizes.blocks (entries_of journal.map)

module _ {D : Type 0} (g : Ghosts D) where
  -- A commit of these pages asks for no sector more often than it takes,
  abbrev pub AsksOnceIn : StoreKept → List FilePage → D → D → Type 0
  AsksOnceIn (OfJournal directory journal) list old new = one_journal.AsksOnce g (live_homes journal) (InFiles.homes_of_pages directory list) old new
  AsksOnceIn (OfPool directory journal) list old new =
      (pool journal.sizes.blocks journal.sizes.homes).AsksOnce g (state_of journal) (pool_homes directory list) old new

  -- and of layout 4 leaves what it says also where a stop spoils whole blocks of 4,096 bytes.
  abbrev pub CommitsInBlocksIn : StoreKept → (Image → Type 0) → D → D → Type 0
  CommitsInBlocksIn (OfJournal directory journal) P old new = Unit {0}
  CommitsInBlocksIn (OfPool directory journal) P old new = PoolCommitsInBlocks g journal.sizes.blocks journal.second (entries_of journal.map) P old new

module _ {D S : Type 0} (g : Ghosts D) (s : SourceGhosts S) where
  -- These pages become durable all at once, as the source gives them:
  pub record CommitsPages (old new : Store D) (list : List FilePage) (given given' : S) (result : Result (Unit {0}) CommitFault) : Type 0 where
    -- after Ok every image of a stop from now on stands for the files after, nothing is unsynced, and the store is ready,
    pub ok : g.keeps_model (disk_of new) → s.keeps_model given'
        → (files : ℕ → Option FileInfo) (before after : ℕ → ℕ → List ℕ)
        → LeavesNow g (disk_of old) (StandsFor (g.sector_count (disk_of old)) files before)
        → Changes files list (s.pages given) before after
        → OnOk result (LeavesNow g (disk_of new) (StandsFor (g.sector_count (disk_of old)) files after))
    pub synced : g.keeps_model (disk_of new) → OnOk result ((k : ℕ) → g.unsynced (disk_of new) k → ⊥)
    pub ready : OnOk result (IsReadyStore g new)
    -- and the next commit may take as many pages as every commit may, where this one took no more.
    pub room : OnOk result (length list ≤ always_free_in (kept_of old) → always_free_in (kept_of old) ≤ free_of new)
    -- Every image of a stop at any moment of the call stands for the files before or after.
    pub any_moment : g.keeps_model (disk_of new) → s.keeps_model given'
        → (files : ℕ → Option FileInfo) (before after : ℕ → ℕ → List ℕ)
        → LeavesNow g (disk_of old) (StandsFor (g.sector_count (disk_of old)) files before)
        → Changes files list (s.pages given) before after
        → LeavesOnly g (disk_of old) (disk_of new) (StandsForEither (g.sector_count (disk_of old)) files before after)
    pub blocks : g.keeps_model (disk_of new) → s.keeps_model given'
        → (files : ℕ → Option FileInfo) (before after : ℕ → ℕ → List ℕ)
        → LeavesNow g (disk_of old) (StandsFor (g.sector_count (disk_of old)) files before)
        → Changes files list (s.pages given) before after
        → CommitsInBlocksIn g (kept_of old) (StandsForEither (g.sector_count (disk_of old)) files before after) (disk_of old) (disk_of new)
    -- Every commit may take as many pages as before, as every such image says.
    pub most_moment : g.keeps_model (disk_of new) → LeavesOnly g (disk_of old) (disk_of new) (SaysMostOf (g.sector_count (disk_of old)) (g.content (disk_of old)))
    pub always : always_free_in (kept_of new) ≡ always_free_in (kept_of old)
    -- What stands for the homes, then and meanwhile: the pages, with zeros past their files' ends, and for every other home what stood for it.
    pub homes : g.keeps_model (disk_of new) → s.keeps_model given'
        → OnOk result (LeavesNow g (disk_of new) (PutsHomesIn (kept_of old) (g.sector_count (disk_of old)) list (s.pages given) (g.content (disk_of old))))
    pub homes_moment : g.keeps_model (disk_of new) → s.keeps_model given'
        → LeavesOnly g (disk_of old) (disk_of new) (PutsHomesOrNone (kept_of old) (g.sector_count (disk_of old)) list (s.pages given) (g.content (disk_of old)))
    -- After a source's fault, and at every moment up to it, they stand for the files before, and the store is ready, with as much room.
    pub source_homes : g.keeps_model (disk_of new) → IsErrOf result Source
        → LeavesNow g (disk_of new) (KeepsHomesIn (kept_of old) (g.sector_count (disk_of old)) (g.content (disk_of old)))
    pub source : g.keeps_model (disk_of new) → IsErrOf result Source
        → (files : ℕ → Option FileInfo) (before : ℕ → ℕ → List ℕ)
        → LeavesNow g (disk_of old) (StandsFor (g.sector_count (disk_of old)) files before)
        → LeavesOnly g (disk_of old) (disk_of new) (StandsFor (g.sector_count (disk_of old)) files before)
    pub source_now : g.keeps_model (disk_of new) → IsErrOf result Source
        → (files : ℕ → Option FileInfo) (before : ℕ → ℕ → List ℕ)
        → LeavesNow g (disk_of old) (StandsFor (g.sector_count (disk_of old)) files before)
        → LeavesNow g (disk_of new) (StandsFor (g.sector_count (disk_of old)) files before)
    pub ready_after_source : IsErrOf result Source → IsReadyStore g new
    pub room_after_source : IsErrOf result Source → free_of new ≡ free_of old
    -- Directory and size are kept.
    pub files : directory_of new ≡ directory_of old
    pub size : g.sector_count (disk_of new) ≡ g.sector_count (disk_of old)
    pub kept : g.keeps_model (disk_of new) → g.keeps_model (disk_of old)
    pub single : IsSingleIn (kept_of old) → OnOk result (IsSingleIn (kept_of new))
    -- Pages are asked of the source, and of the device no sector but those that a commit uses, and of these no more than one of these pages takes, none
    -- more often than that; no other is written than those that it writes.
    pub asks : Asks s given given'
    pub asks_device : AsksOnly g (IsUsedIn (kept_of old)) (disk_of old) (disk_of new)
    pub asks_staged : AsksOnly g (IsStagedIn (kept_of old) list) (disk_of old) (disk_of new)
    pub once : AsksOnceIn g (kept_of old) list (disk_of old) (disk_of new)
    pub touches : g.keeps_model (disk_of new) → Touches g (IsCommittedIn (kept_of old)) (disk_of old) (disk_of new)
    -- A fault is told exactly where the one that it names failed.
    pub causes : HasCauses (g.failures (disk_of old)) (g.failures (disk_of new)) (s.failures given) (s.failures given') result
