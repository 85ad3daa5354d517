-- An open store of layout 4.
use Rattle.std.specs.Prelude.{ℕ, ◌*◌, ◌≤◌, ◌≡◌, Bool, List, Option, Some, None, Result, OnOk, vec_capacity}
use Rattle.std.specs.Option.{option_map}
use Rattle.vm_types.specs.declared.{file.FileInfo.{FileInfo}, file.FilePage.{FilePage}}
use Rattle.disk_model.specs.{Moments.{Touches, AsksOnly, Nothing}, Stop.{HasCause, Names}}
use Rattle.disk_model.specs.declared.sector_disk.SectorDisk.{Ghosts}
use Rattle.sync_journal.specs.Layout.{IsPageSector}
use Rattle.pool_journal.specs.{Journal.{IsPoolJournal}, Maps.{entries_of}, Pools.{pool_standing, IsPoolRest}, Sizes.{HasPool}}
pub use Rattle.pool_journal.specs.Recovering.{state_of}
use Rattle.pool_journal.specs.declared.pool.PoolJournal.{PoolJournal}
use Rattle.directories.specs.{Homes.{home_of_page}, Kinds.{IsDirectorySize, IsKind}, Layouts.{entry_in}}
use Rattle.directories.specs.declared.entry.Entry.{Entry}
use Rattle.pool_store.specs.Files.{StoreLayout, info_of, page_in}
use Rattle.pool_store.specs.Pools.{AreEntries, AreSaid, files_in_pool, pool_mark}
use Rattle.pool_store.specs.declared.directory.Directory.{Directory}
use Rattle.pool_store.specs.declared.room.CommitRoom.{CommitRoom}
use Rattle.pool_store.specs.declared.store.PoolStore.{PoolStore}

-- the entry of file f
abbrev pub entry_of : Directory → ℕ → Option Entry
entry_of directory f = entry_in directory.entries.items f

-- the home of a page
abbrev pub home_by : Option Entry → ℕ → Option ℕ
home_by None k = None
home_by (Some e) k = home_of_page e k

abbrev pub home_of : Directory → FilePage → Option ℕ
home_of directory p = home_by (entry_of directory p.file) p.page

-- what is fixed of file f
abbrev pub info_by : Directory → ℕ → Option FileInfo
info_by directory f = option_map info_of (entry_of directory f)

-- A directory in memory of a store with n homes:
pub record IsDirectoryOn (n : ℕ) (directory : Directory) : Type 0 where
  -- it has 1 to 256 pages, all on the device,
  pub sized : IsDirectorySize directory.pages
  pub inside : directory.pages ≤ n
  -- and entries that such a store may have.
  pub may : AreEntries directory.pages n directory.entries.items
  pub open may use *

-- room for a commit to as many slots as a pool with maps of m blocks has
abbrev pub HasCommitRoom : ℕ → CommitRoom → Type 0
HasCommitRoom m room = (1008 * m ≤ vec_capacity room.places) × (1008 * m ≤ vec_capacity room.homes)

module _ {D : Type 0} where
  -- the layout of a store
  abbrev pub layout_of : PoolStore D → StoreLayout (Bool × (Bool → ℕ → ℕ))
  layout_of store = files_in_pool store.journal.sizes.blocks store.directory.pages store.journal.sizes.homes

  -- what it says of file f
  abbrev pub files_of : PoolStore D → ℕ → Option FileInfo
  files_of store f = info_by store.directory f

module _ {D : Type 0} (g : Ghosts D) where
  -- A device as a store between two commits has it, as long as it keeps its model:
  pub record IsPoolAtRest (journal : PoolJournal) (directory : Directory) (disk : D) : Type 0 where
    -- it is at rest under the journal,
    pub rest : IsPoolRest g journal.sizes.blocks journal.sizes.homes journal.second (entries_of journal.map) disk
    -- has mark and kind,
    pub mark : g.content disk 0 ≡ pool_mark
    pub kind : IsKind journal.sizes.blocks directory.pages (g.content disk 1)
    -- and its directory is the one in memory.
    pub said : AreSaid directory.pages (pool_standing journal.sizes.blocks journal.sizes.homes (g.content disk)) directory.entries.items

  -- Journal and directory of a store on a device:
  pub record IsPoolOf (journal : PoolJournal) (directory : Directory) (disk : D) : Type 0 where
    -- the journal is one of a pool that lies on it,
    pub is_journal : IsPoolJournal journal
    pub pool : HasPool g journal.sizes disk
    -- the directory one of a store with its homes,
    pub is_directory : IsDirectoryOn journal.sizes.homes directory
    -- and so the device has them.
    pub at_rest : g.keeps_model disk → IsPoolAtRest journal directory disk

  -- A store may be read and committed to:
  pub record IsReadyPool (store : PoolStore D) : Type 0 where
    pub is : IsPoolOf store.journal store.directory store.disk
    pub open is use *
    -- there is room for the homes of a commit.
    pub room : HasCommitRoom store.journal.sizes.blocks store.room

module _ {D : Type 0} where
  -- one of the eight sectors in which this page stands
  abbrev pub IsSectorOf : PoolStore D → FilePage → ℕ → Type 0
  IsSectorOf store p k = (h : ℕ) × (home_of store.directory p ≡ Some h) × IsPageSector ((layout_of store).pages.stands_at (state_of store.journal) h) k

module _ {D T E : Type 0} (g : Ghosts D) where
  -- A page of a file is read:
  pub record ReadsPoolPage (old new : PoolStore D) (p : FilePage) (to : List ℕ) (result : Result T E) : Type 0 where
    -- it is given as it stands,
    pub page : g.keeps_model new.disk → OnOk result (to ≡ page_in (layout_of old) (g.content old.disk) p.file p.page)
    -- the store stays ready, and as it was, and nothing is written;
    pub ready : IsReadyPool g new
    pub same : (new.directory ≡ old.directory) × (new.journal ≡ old.journal)
    pub size : g.sector_count new.disk ≡ g.sector_count old.disk
    pub kept : g.keeps_model new.disk → g.keeps_model old.disk
    pub touches : g.keeps_model new.disk → Touches g Nothing old.disk new.disk
    -- no sector is asked for but those in which the page stands, and each of them once,
    pub asks : AsksOnly g (IsSectorOf old p) old.disk new.disk
    pub once : Names (IsSectorOf old p) (g.asked old.disk) (g.asked new.disk)
    -- and an error is told exactly where the device failed.
    pub cause : HasCause (g.failures old.disk) (g.failures new.disk) result
