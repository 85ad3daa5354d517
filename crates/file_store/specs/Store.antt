-- An open store.
use Rattle.std.specs.Prelude.{ℕ, ◌+◌, ◌*◌, ◌^◌, ◌<◌, ◌≤◌, ◌≡◌, ◌⊎◌, List, [], map, slice_get, Option, Some, None, get_or, Result, OnOk}
use Rattle.std.specs.Option.{option_map}
use Rattle.vm_types.specs.declared.file.FileInfo.{FileInfo}
use Rattle.disk_model.specs.declared.sector_disk.SectorDisk.{Ghosts}
use Rattle.sync_journal.specs.Layout.{first_home_sector, home_count, IsPageSector}
use Rattle.sync_journal.specs.Commit.{IsAtRest, one_journal}
use Rattle.sync_journal.specs.Journal.{live_homes}
use Rattle.sync_journal.specs.Map.{AreHomes}
use Rattle.sync_journal.specs.Layouts.{HomesStandAs}
use Rattle.file_store.specs.declared.directory.Entry.{Entry}
use Rattle.file_store.specs.declared.directory.Directory.{Directory}
use Rattle.file_store.specs.declared.store.FileStore.{FileStore}
use Rattle.vm_types.specs.declared.file.FilePage.{FilePage}
use Rattle.file_store.specs.Layout.{bytes_inside, padded_page}
use Rattle.file_store.specs.Directory.{IsSoundDirectory}
use Rattle.file_store.specs.Standing.{directory_entry, standing, standing_page, IsBadLayout, IsBadJournal}
use Rattle.disk_model.specs.Stop.{Image, HasCause, Names}
use Rattle.disk_model.specs.Moments.{Touches, AsksOnly, Nothing, LeavesNow}
use Rattle.disk_model.specs.Sectors.{part_of}

-- the entry of file f
abbrev pub entry_of : Directory → ℕ → Option Entry
entry_of directory f = get_or directory.entries f None

module _ {D : Type 0} where
  -- what the store says of file f
  abbrev pub files_of : FileStore D → ℕ → Option FileInfo
  files_of store f = option_map (λ e. e.info) (entry_of store.directory f)

module _ {D : Type 0} (g : Ghosts D) where
  -- what the store's device holds, as long as it keeps its model: the directory is the store's, and the journal open is
  -- the one that the store knows of, if any
  pub record IsStoreAtRest (store : FileStore D) : Type 0 where
    pub journal : IsAtRest g (live_homes store.journal) store.disk
    pub directory : (f : ℕ) → entry_of store.directory f ≡ directory_entry (g.content store.disk) f

  -- The store may be read and committed to.
  pub record IsReadyStore (store : FileStore D) : Type 0 where
    pub room : first_home_sector ≤ g.sector_count store.disk
    pub sound : IsSoundDirectory (home_count (g.sector_count store.disk)) (entry_of store.directory)
    pub live : AreHomes (home_count (g.sector_count store.disk)) (live_homes store.journal)
    pub at_rest : g.keeps_model store.disk → IsStoreAtRest store

-- how many bytes of the page at place i of a list lie inside its file, where it has one
unfoldable pub inside_in : Option Entry → ℕ → ℕ
inside_in None k = 4096
inside_in (Some e) k = bytes_inside e.info.length k

unfoldable pub inside_named : Directory → Option FilePage → ℕ
inside_named directory None = 4096
inside_named directory (Some p) = inside_in (entry_of directory p.file) p.page

abbrev pub inside_at : Directory → List FilePage → ℕ → ℕ
inside_at directory list i = inside_named directory (slice_get list i)

-- a page that begins inside its file, whose home's number fits into four bytes
pub record IsEntryPage (directory : Directory) (p : FilePage) : Type 0 where
  pub entry : Entry
  pub is : entry_of directory p.file ≡ Some entry
  pub inside : 4096 * p.page < entry.info.length
  pub fits : entry.first + p.page < 2 ^ 30

abbrev pub entry_home : Option Entry → ℕ → ℕ
entry_home None k = 0
entry_home (Some e) k = e.first + k

-- the home page of a page
unfoldable pub home_of : Directory → FilePage → ℕ
home_of directory p = entry_home (entry_of directory p.file) p.page

-- and those of a list of pages
abbrev pub homes_of_pages : Directory → List FilePage → List ℕ
homes_of_pages directory list = map (home_of directory) list

module _ {D : Type 0} where
  -- one of the eight sectors in which this page stands: in the body where the journal is live with it, otherwise in its home
  abbrev pub IsSectorOf : FileStore D → FilePage → ℕ → Type 0
  IsSectorOf store p k = IsPageSector (one_journal.stands_at (live_homes store.journal) (home_of store.directory p)) k

module _ {D : Type 0} (g : Ghosts D) where
  -- What opening leaves: the device at rest with this directory and a closed gate, and what stood for its homes.
  pub record IsMounted (old new : D) (directory : Directory) : Type 0 where
    pub room : first_home_sector ≤ g.sector_count old
    pub sound : IsSoundDirectory (home_count (g.sector_count old)) (entry_of directory)
    pub rest : g.keeps_model new → IsAtRest g [] new
    pub same : g.keeps_model new → (f : ℕ) → entry_of directory f ≡ directory_entry (g.content new) f
    pub layout : g.keeps_model new → IsBadLayout (g.sector_count old) (g.content old) → ⊥
    pub journal : g.keeps_model new → IsBadJournal (g.sector_count old) (g.content old) → ⊥
    pub stands : g.keeps_model new → LeavesNow g new (HomesStandAs one_journal (g.sector_count old) (g.content old))
    pub synced : g.keeps_model new → (k : ℕ) → g.unsynced new k → ⊥
    pub emptied : g.keeps_model new → one_journal.IsClosed (g.content new)
    pub calm : g.failures new ≡ g.failures old

  module _ {T E : Type 0} where
    -- A page of a file is read:
    pub record ReadsFilePage (old new : FileStore D) (p : FilePage) (to : List ℕ) (result : Result T E) : Type 0 where
      -- it is given as it stands,
      pub page : g.keeps_model new.disk → OnOk result (to ≡ standing_page (g.content old.disk) p.file p.page)
      -- the store stays ready, and as it was, and nothing is written;
      pub ready : IsReadyStore g new
      pub files : new.directory ≡ old.directory
      pub journal : new.journal ≡ old.journal
      pub size : g.sector_count new.disk ≡ g.sector_count old.disk
      pub kept : g.keeps_model new.disk → g.keeps_model old.disk
      pub touches : g.keeps_model new.disk → Touches g Nothing old.disk new.disk
      -- no sector is asked for but those in which the page stands, and each of them once,
      pub asks : AsksOnly g (IsSectorOf old p) old.disk new.disk
      pub once : Names (IsSectorOf old p) (g.asked old.disk) (g.asked new.disk)
      -- and an error is told exactly where the device failed.
      pub cause : HasCause (g.failures old.disk) (g.failures new.disk) result

-- What a commit of these pages makes of the homes: a page of the list stands for its home whole, with zeros past its
-- file's end, and every other home stands as it did, the bytes past a file's end too. The mark, the directory and what
-- lies behind the last home are as they were.
pub record PutsHomes (sectors : ℕ) (directory : Directory) (list : List FilePage) (given : ℕ → List ℕ) (old new : Image) : Type 0 where
  pub listed : (i j : ℕ) (p : FilePage) → slice_get list i ≡ Some p → j < 8
      → standing new (home_of directory p) j ≡ part_of (padded_page (inside_at directory list i) (given i)) j
  pub others : (h j : ℕ) → ((i : ℕ) (p : FilePage) → slice_get list i ≡ Some p → home_of directory p ≡ h → ⊥) → j < 8 → standing new h j ≡ standing old h j
  pub outside : (k : ℕ) → one_journal.IsOutside old sectors k → new k ≡ old k

-- the homes stand as they did, or as the commit makes them
abbrev pub PutsHomesOrNone : ℕ → Directory → List FilePage → (ℕ → List ℕ) → Image → Image → Type 0
PutsHomesOrNone sectors directory list given old new = HomesStandAs one_journal sectors old new ⊎ PutsHomes sectors directory list given old new
