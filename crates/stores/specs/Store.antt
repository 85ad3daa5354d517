-- An open store.
use Rattle.std.specs.Prelude.{ℕ, ◌≤◌, ◌*◌, ◌≡◌, ◌⊎◌, false, List, Option, Some, Result, OnOk}
use Rattle.std.proofs.Common.{inl, inr}
use Rattle.std.specs.Option.{option_map}
use Rattle.vm_types.specs.declared.file.{FileInfo.{FileInfo}, FilePage.{FilePage}}
use Rattle.disk_model.specs.{Moments.{Touches, AsksOnly, Nothing}, Stop.{HasCause, Names}}
use Rattle.disk_model.specs.declared.sector_disk.SectorDisk.{Ghosts}
use Rattle.sync_journal.specs.{Commit.{one_journal}, Journal.{live_homes}, Layout.{IsPageSector, page_limit}}
use Rattle.sync_journal.specs.declared.journal.Journal.{Journal as OneJournal}
use Rattle.pool_journal.specs.{Journal.{free_count}, Maps.{entries_of}, Pools.{pool, IsPoolUsed}}
use Rattle.pool_journal.specs.Recovering.{state_of}
use Rattle.pool_journal.specs.declared.pool.PoolJournal.{PoolJournal}
use Rattle.file_store.specs.Store as InFiles
use Rattle.file_store.specs.declared.directory.Directory.{Directory}
use Rattle.pool_store.specs.Store as InPool
use Rattle.pool_store.specs.declared.directory.Directory.{Directory as PoolDirectory}
use Rattle.stores.specs.Images.{is_pool, standing_page}
use Rattle.stores.specs.declared.store.Store.{Store}
use Rattle.stores.specs.declared.store.Store.TheVariants.{Journal, Pool}

-- What a store keeps in memory of its files and its journal: of layout 2, or of layout 4.
pub data StoreKept : Type 0 where
  OfJournal : Directory → OneJournal → StoreKept
  OfPool : PoolDirectory → PoolJournal → StoreKept

-- of its files alone
abbrev pub AnyDirectory : Type 0
AnyDirectory = Directory ⊎ PoolDirectory

abbrev pub directory_in : StoreKept → AnyDirectory
directory_in (OfJournal directory journal) = inl directory
directory_in (OfPool directory journal) = inr directory

-- what is fixed of file f
abbrev pub files_in : AnyDirectory → ℕ → Option FileInfo
files_in (inl directory) f = option_map (λ e. e.info) (InFiles.entry_of directory f)
files_in (inr directory) f = InPool.info_by directory f

-- one of the eight sectors in which a page stands
abbrev pub IsSectorIn : StoreKept → FilePage → ℕ → Type 0
IsSectorIn (OfJournal directory journal) p k = IsPageSector (one_journal.stands_at (live_homes journal) (InFiles.home_of directory p)) k
IsSectorIn (OfPool directory journal) p k = (h : ℕ) × (InPool.home_of directory p ≡ Some h)
    × IsPageSector ((pool journal.sizes.blocks journal.sizes.homes).stands_at (state_of journal) h) k

-- a sector that a commit may ask for
abbrev pub IsUsedIn : StoreKept → ℕ → Type 0
IsUsedIn (OfJournal directory journal) k = one_journal.IsCommitted (live_homes journal) k
IsUsedIn (OfPool directory journal) k = IsPoolUsed journal.sizes.blocks journal.second (entries_of journal.map) k

-- a sector that a commit writes then
abbrev pub IsCommittedIn : StoreKept → ℕ → Type 0
IsCommittedIn (OfJournal directory journal) k = one_journal.IsCommitted (live_homes journal) k
IsCommittedIn (OfPool directory journal) k = (pool journal.sizes.blocks journal.sizes.homes).IsCommitted (state_of journal) k

-- how many pages the next commit may take, and how many every commit may after which none took more: of a pool as many as are free, and as a body has
abbrev pub free_in : StoreKept → ℕ
free_in (OfJournal directory journal) = page_limit
free_in (OfPool directory journal) = free_count journal.sizes.blocks (entries_of journal.map)

abbrev pub always_free_in : StoreKept → ℕ
always_free_in (OfJournal directory journal) = page_limit
always_free_in (OfPool directory journal) = 504 * journal.sizes.blocks

-- and how many it may take where no page stands in a slot: of a pool as many as both bodies have
abbrev pub capacity_in : StoreKept → ℕ
capacity_in (OfJournal directory journal) = page_limit
capacity_in (OfPool directory journal) = 2 * (504 * journal.sizes.blocks)

-- the next commit may take as many pages as every commit
abbrev pub HasRoom : StoreKept → Type 0
HasRoom kept = always_free_in kept ≤ free_in kept

module _ {D : Type 0} where
  -- a store's device, and what it keeps
  abbrev pub disk_of : Store D → D
  disk_of (Journal store) = store.disk
  disk_of (Pool store) = store.disk

  abbrev pub kept_of : Store D → StoreKept
  kept_of (Journal store) = OfJournal store.directory store.journal
  kept_of (Pool store) = OfPool store.directory store.journal

  abbrev pub directory_of : Store D → AnyDirectory
  directory_of store = directory_in (kept_of store)

  -- what is fixed of file f
  abbrev pub files_of : Store D → ℕ → Option FileInfo
  files_of store f = files_in (directory_of store) f

  -- one of the eight sectors in which this page stands
  abbrev pub IsSectorOf : Store D → FilePage → ℕ → Type 0
  IsSectorOf store p k = IsSectorIn (kept_of store) p k

  -- how many pages the next commit may take
  abbrev pub free_of : Store D → ℕ
  free_of store = free_in (kept_of store)

module _ {D : Type 0} (g : Ghosts D) where
  -- The store may be read and committed to. Of layout 2 its mark is none of a pool.
  abbrev pub IsReadyStore : Store D → Type 0
  IsReadyStore (Journal store) = InFiles.IsReadyStore g store × (g.keeps_model store.disk → is_pool (g.content store.disk) ≡ false)
  IsReadyStore (Pool store) = InPool.IsReadyPool g store

module _ {D T E : Type 0} (g : Ghosts D) where
  -- A page of a file is read:
  pub record ReadsFilePage (old new : Store D) (p : FilePage) (to : List ℕ) (result : Result T E) : Type 0 where
    -- it is given as it stands,
    pub page : g.keeps_model (disk_of new) → OnOk result (to ≡ standing_page (g.sector_count (disk_of old)) (g.content (disk_of old)) p.file p.page)
    -- the store stays ready, and as it was, and nothing is written;
    pub ready : IsReadyStore g new
    pub same : kept_of new ≡ kept_of old
    pub size : g.sector_count (disk_of new) ≡ g.sector_count (disk_of old)
    pub kept : g.keeps_model (disk_of new) → g.keeps_model (disk_of old)
    pub touches : g.keeps_model (disk_of new) → Touches g Nothing (disk_of old) (disk_of new)
    -- no sector is asked for but those in which the page stands, and each of them once,
    pub asks : AsksOnly g (IsSectorOf old p) (disk_of old) (disk_of new)
    pub once : Names (IsSectorOf old p) (g.asked (disk_of old)) (g.asked (disk_of new))
    -- and an error is told exactly where the device failed.
    pub cause : HasCause (g.failures (disk_of old)) (g.failures (disk_of new)) result
