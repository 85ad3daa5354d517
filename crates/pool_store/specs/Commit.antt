-- Pages of files in a pool, changed all at once: failure-atomic msync (Park, Kelly and Shen, EuroSys 2013).
use Rattle.std.specs.Prelude.{ℕ, ◌*◌, ◌<◌, ◌≤◌, ◌≡◌, ◌⊎◌, List, length, slice_get, Option, Some, Result, OnOk, IsErrOf}
use Rattle.vm_types.specs.declared.file.{FileInfo.{FileInfo}, FilePage.{FilePage}}
use Rattle.disk_model.specs.{Moments.{Touches, AsksOnly, LeavesOnly, LeavesNow}, Sectors.{part_of}, Stop.{Image}}
use Rattle.disk_model.specs.declared.sector_disk.SectorDisk.{Ghosts}
use Rattle.sync_journal.specs.{Layouts.{HomesStandAs}, Source.{HasCauses, Asks}}
use Rattle.sync_journal.specs.declared.faults.CommitFault.{CommitFault}
use Rattle.sync_journal.specs.declared.faults.CommitFault.TheVariants.{Source}
use Rattle.sync_journal.specs.declared.source.PageSource.{Ghosts as SourceGhosts}
use Rattle.pool_journal.specs.{Committing.{IsPoolNoted, IsPoolStaged, PoolCommitsInBlocks}, Gates.{IsPoolGate}, Journal.{free_count}, Maps.{entries_of}, Pools.{IsPoolUsed, IsSingle}}
use Rattle.file_store.specs.{Commit.{Changes}, Standing.{IsPageOf}}
use Rattle.pool_store.specs.Files.{StoreLayout, StandsFor, StandsForEither}
use Rattle.pool_store.specs.Places.{cut_pages, homes_of_pages}
use Rattle.pool_store.specs.Store.{home_of, files_of, layout_of, state_of, IsReadyPool}
use Rattle.pool_store.specs.declared.{directory.Directory.{Directory}, store.PoolStore.{PoolStore}}

module _ {D : Type 0} where
  -- as many pages at most as slots are free, inside their files, none twice
  pub record ArePoolPages (store : PoolStore D) (list : List FilePage) : Type 0 where
    pub few : length list ≤ free_count store.journal.sizes.blocks (entries_of store.journal.map)
    pub inside : (i : ℕ) (p : FilePage) → slice_get list i ≡ Some p → IsPageOf (files_of store) p.file p.page
    pub distinct : (i j : ℕ) (p : FilePage) → i < j → slice_get list i ≡ Some p → slice_get list j ≡ Some p → ⊥

-- What a commit of these pages makes of the homes, as a layout says it of images: a page of the list stands for its home whole, with zeros past
-- its file's end, and every other home stands as it did, the bytes past a file's end too. What lies outside of journal and homes is as it was.
pub record PutsHomes {S : Type 0} (layout : StoreLayout S) (sectors : ℕ) (directory : Directory) (list : List FilePage) (given : ℕ → List ℕ)
    (old new : Image) : Type 0 where
  pub listed : (i h j : ℕ) (p : FilePage) → slice_get list i ≡ Some p → home_of directory p ≡ Some h → j < 8
      → layout.pages.standing new h j ≡ part_of (cut_pages directory list given i) j
  pub others : (h j : ℕ) → ((i : ℕ) (p : FilePage) → slice_get list i ≡ Some p → home_of directory p ≡ Some h → ⊥) → j < 8
      → layout.pages.standing new h j ≡ layout.pages.standing old h j
  pub outside : (k : ℕ) → layout.pages.IsOutside old sectors k → new k ≡ old k

-- the homes stand as they did, or as the commit makes them
abbrev pub PutsHomesOrNone : {S : Type 0} → StoreLayout S → ℕ → Directory → List FilePage → (ℕ → List ℕ) → Image → Image → Type 0
PutsHomesOrNone layout sectors directory list given old new = HomesStandAs layout.pages sectors old new ⊎ PutsHomes layout sectors directory list given old new

module _ {D S : Type 0} (g : Ghosts D) (s : SourceGhosts S) where
  -- These pages become durable all at once, as the source gives them:
  pub record CommitsToPool (old new : PoolStore D) (list : List FilePage) (given given' : S) (result : Result (Unit {0}) CommitFault) : Type 0 where
    -- after Ok every image of a stop from now on stands for the files after, nothing is unsynced, and the store is ready;
    pub ok : g.keeps_model new.disk → s.keeps_model given'
        → (files : ℕ → Option FileInfo) (before after : ℕ → ℕ → List ℕ)
        → LeavesNow g old.disk (StandsFor (layout_of old) (g.sector_count old.disk) files before)
        → Changes files list (s.pages given) before after
        → OnOk result (LeavesNow g new.disk (StandsFor (layout_of old) (g.sector_count old.disk) files after))
    pub synced : g.keeps_model new.disk → OnOk result ((k : ℕ) → g.unsynced new.disk k → ⊥)
    pub ready : OnOk result (IsReadyPool g new)
    -- as many slots are free as a body has, where the list took no more.
    pub room : OnOk result (length list ≤ 504 * old.journal.sizes.blocks
        → 504 * old.journal.sizes.blocks ≤ free_count old.journal.sizes.blocks (entries_of new.journal.map))
    -- Every image of a stop at any moment of the call stands for the files before or after, even one that spoils whole blocks of 4,096 bytes.
    pub any_moment : g.keeps_model new.disk → s.keeps_model given'
        → (files : ℕ → Option FileInfo) (before after : ℕ → ℕ → List ℕ)
        → LeavesNow g old.disk (StandsFor (layout_of old) (g.sector_count old.disk) files before)
        → Changes files list (s.pages given) before after
        → LeavesOnly g old.disk new.disk (StandsForEither (layout_of old) (g.sector_count old.disk) files before after)
    pub blocks : g.keeps_model new.disk → s.keeps_model given'
        → (files : ℕ → Option FileInfo) (before after : ℕ → ℕ → List ℕ)
        → LeavesNow g old.disk (StandsFor (layout_of old) (g.sector_count old.disk) files before)
        → Changes files list (s.pages given) before after
        → PoolCommitsInBlocks g old.journal.sizes.blocks old.journal.second (entries_of old.journal.map)
        (StandsForEither (layout_of old) (g.sector_count old.disk) files before after) old.disk new.disk
    -- What stands for the homes, then and meanwhile: the pages, with zeros past their files' ends, and for every other home what stood for it.
    pub homes : g.keeps_model new.disk → s.keeps_model given'
        → OnOk result (LeavesNow g new.disk (PutsHomes (layout_of old) (g.sector_count old.disk) old.directory list (s.pages given) (g.content old.disk)))
    pub homes_moment : g.keeps_model new.disk → s.keeps_model given'
        → LeavesOnly g old.disk new.disk (PutsHomesOrNone (layout_of old) (g.sector_count old.disk) old.directory list (s.pages given) (g.content old.disk))
    -- After a source's fault they stand for the files before, as at every moment of the call; the store is ready, and its map the one that it was, in the
    -- place that the gate named.
    pub source_homes : g.keeps_model new.disk → IsErrOf result Source
        → LeavesNow g new.disk (HomesStandAs (layout_of old).pages (g.sector_count old.disk) (g.content old.disk))
    pub source : g.keeps_model new.disk → IsErrOf result Source
        → (files : ℕ → Option FileInfo) (before : ℕ → ℕ → List ℕ) → LeavesNow g old.disk (StandsFor (layout_of old) (g.sector_count old.disk) files before)
        → LeavesOnly g old.disk new.disk (StandsFor (layout_of old) (g.sector_count old.disk) files before)
    pub source_now : g.keeps_model new.disk → IsErrOf result Source
        → (files : ℕ → Option FileInfo) (before : ℕ → ℕ → List ℕ) → LeavesNow g old.disk (StandsFor (layout_of old) (g.sector_count old.disk) files before)
        → LeavesNow g new.disk (StandsFor (layout_of old) (g.sector_count old.disk) files before)
    pub ready_after_source : IsErrOf result Source → IsReadyPool g new
    pub map_after_source : IsErrOf result Source → new.journal.map ≡ old.journal.map
    pub second_after_source : IsErrOf result Source → new.journal.second ≡ old.journal.second
    -- Directory and sizes are kept, and no home gets two slots.
    pub files : new.directory ≡ old.directory
    pub sizes : new.journal.sizes ≡ old.journal.sizes
    pub size : g.sector_count new.disk ≡ g.sector_count old.disk
    pub kept : g.keeps_model new.disk → g.keeps_model old.disk
    pub single : IsSingle old.journal.sizes.blocks (entries_of old.journal.map) → OnOk result (IsSingle old.journal.sizes.blocks (entries_of new.journal.map))
    -- The device is asked for the gate, what is loose, and slots alone, slots in use only where these and the list are more than a body has, and of the
    -- map what it takes; for no sector more often than that takes; and no other is written than the gate and what is loose.
    pub asks : Asks s given given'
    pub asks_device : AsksOnly g (IsPoolUsed old.journal.sizes.blocks old.journal.second (entries_of old.journal.map)) old.disk new.disk
    pub asks_staged : AsksOnly g (λ k. IsPoolGate k
        ⊎ IsPoolStaged old.journal.sizes.blocks old.journal.second (entries_of old.journal.map) (homes_of_pages old.directory list) k) old.disk new.disk
    pub asks_noted : OnOk result (AsksOnly g (λ k. IsPoolGate k ⊎ IsPoolNoted old.journal.sizes.blocks old.journal.second
        (entries_of old.journal.map) (entries_of new.journal.map) (homes_of_pages old.directory list) k) old.disk new.disk)
    pub once : (layout_of old).pages.AsksOnce g (state_of old.journal) (homes_of_pages old.directory list) old.disk new.disk
    pub touches : g.keeps_model new.disk → Touches g ((layout_of old).pages.IsCommitted (state_of old.journal)) old.disk new.disk
    -- A fault is told exactly where the one that it names failed.
    pub causes : HasCauses (g.failures old.disk) (g.failures new.disk) (s.failures given) (s.failures given') result
