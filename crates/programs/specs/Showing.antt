-- What a file that is shown is read from, and what becomes of its device and of the writer.
use Rattle.std.specs.Prelude.{◌≡◌, ◌⊎◌, ◌<◌, ◌*◌, ℕ, Bool, true, false, List, Option, Some, None, Result, OnOk, OnErr, IsErrOf}
use Rattle.std.specs.Io.KnownBytes.{Appends}
use Rattle.disk_model.specs.Stop.{Image}
use Rattle.disk_model.specs.Moments.{AsksOnly, LeavesOnly, Nothing, Touches}
use Rattle.disk_model.specs.declared.sector_disk.SectorDisk.{Ghosts}
use Rattle.vm_types.specs.declared.file.FileInfo.{FileInfo}
use Rattle.vm_types.specs.declared.file.FilePage.{FilePage}
use Rattle.sync_journal.specs.Layout.{IsPageSector, home_sector}
use Rattle.file_store.specs.declared.directory.Entry.{Entry}
use Rattle.stores.specs.declared.faults.OpenFault.{OpenFault}
use Rattle.stores.specs.declared.faults.OpenFault.TheVariants.{Device, BadLayout, BadJournal}
use Rattle.stores.specs.declared.store.Store.{Store}
use Rattle.file_store.specs.Directory.{IsHomeOf}
use Rattle.stores.specs.Images.{is_pool, map_blocks, pool_of, IsAskedToOpen, IsWrittenToOpen, IsBadLayout, IsBadJournal as IsBadJournalOf, IsClosed, IsOutside, StandsAs, StandsFor}
use Rattle.stores.specs.Opened.{IsCarriedOut}
use Rattle.pool_journal.specs.Pools.{pool_entry, pool_home_count, pool_named}
use Rattle.stores.specs.Store.{disk_of, kept_of, files_of, IsReadyStore, IsSectorOf}
use Rattle.{directories.specs.{Homes.{home_of_page}, declared.entry.Entry.{Entry as PoolEntry}}, file_store.specs.Standing.{IsPageOf, bytes_of_pages, directory_entry}}
use Rattle.runner.specs.Bytes.{WritesBeginning}
use Rattle.programs.specs.declared.showing.ShowFault.{ShowFault}
use Rattle.programs.specs.declared.showing.ShowFault.TheVariants.{Open, NoFile, Read}

-- a sector of a home of file f of a store of layout 2, by the directory of the image
abbrev pub IsInHomesOf : Image → ℕ → ℕ → Type 0
IsInHomesOf image f k = (entry : Entry) × (home : ℕ) × (directory_entry image f ≡ Some entry) × IsHomeOf entry home × IsPageSector (home_sector home) k

-- how a pool's image gives the slots: the map that its gate names
abbrev pub map_named : ℕ → Image → Bool × (Bool → ℕ → ℕ)
map_named sectors image = (pool_named image, pool_entry (map_blocks image) (pool_home_count (map_blocks image) sectors) (pool_named image) image)

-- a sector in which a page of file f of a pool stands: of its first slot in the map that the gate names, or of its home where there is none
abbrev pub IsInPoolOf : ℕ → Image → ℕ → ℕ → Type 0
IsInPoolOf sectors image f k = (entry : PoolEntry) × (page : ℕ) × (home : ℕ) × ((pool_of sectors image).entry image f ≡ Some entry)
    × (home_of_page entry page ≡ Some home) × IsPageSector ((pool_of sectors image).pages.stands_at (map_named sectors image) home) k

-- by whether the image is one of a pool
abbrev pub IsInPagesOf : Bool → ℕ → Image → ℕ → ℕ → Type 0
IsInPagesOf false sectors image f k = IsInHomesOf image f k
IsInPagesOf true sectors image f k = IsInPoolOf sectors image f k

-- what a showing of file f of this image asks for: what an opening does, and the file's pages
abbrev pub IsAskedToShow : ℕ → Image → ℕ → ℕ → Type 0
IsAskedToShow sectors image f k = IsAskedToOpen sectors image k ⊎ IsInPagesOf (is_pool image) sectors image f k

module _ {D : Type 0} where
  -- one of the sectors in which the pages of file f stand
  abbrev pub IsSectorOfFile : Store D → ℕ → ℕ → Type 0
  IsSectorOfFile store f k = (page : ℕ) × IsPageOf (files_of store) f page × IsSectorOf store (record { file = f; page = page }) k

-- A fault blames the device
pub record BlamesDevice {T F : Type 0} (before now : ℕ) (blame : F) (result : Result T F) : Type 0 where
  -- only where it failed,
  pub cause : IsErrOf result blame → before < now
  -- and with any other outcome it did not.
  pub calm : OnOk result (now ≡ before)
  pub still : OnErr result ((IsErrOf result blame → ⊥) → now ≡ before)

module _ {D : Type 0} (g : Ghosts D) where
  -- A page of a file of so many bytes may be copied out of a store:
  pub record IsCopyable (store : Store D) (page : FilePage) (length : ℕ) : Type 0 where
    -- this may be read, and has it, and some of its bytes lie inside the file.
    pub ready : IsReadyStore g store
    pub inside : IsPageOf (files_of store) page.file page.page
    pub first : 4096 * page.page < length

  -- A store is read, and no more:
  pub record OnlyReads (W : ℕ → Type 0) (old new : Store D) : Type 0 where
    -- it keeps what it had in memory, and may be read further;
    pub same : kept_of new ≡ kept_of old
    pub ready : IsReadyStore g new
    -- its device has as many sectors, keeps its model only if it did, and has nothing written to it,
    pub size : g.sector_count (disk_of new) ≡ g.sector_count (disk_of old)
    pub kept : g.keeps_model (disk_of new) → g.keeps_model (disk_of old)
    pub touches : g.keeps_model (disk_of new) → Touches g Nothing (disk_of old) (disk_of new)
    -- and is asked for these sectors alone.
    pub asks : AsksOnly g W (disk_of old) (disk_of new)

  -- A showing of file f keeps to it.
  pub record KeepsToFile (f : ℕ) (old new : D) : Type 0 where
    -- no sector was asked for but those that an opening asks for, and the pages of the file
    pub asks : g.keeps_model new → AsksOnly g (IsAskedToShow (g.sector_count old) (g.content old) f) old new
    -- what lies outside of journal, pool and homes is as it was
    pub outside : g.keeps_model new → (k : ℕ) → IsOutside (g.sector_count old) (g.content old) k → g.content new k ≡ g.content old k

  -- Whatever comes of a showing of file f, it changes nothing of what the device stands for:
  pub record KeepsImage (f : ℕ) (old new : D) : Type 0 where
    -- the device keeps its model only if it did,
    pub kept : g.keeps_model new → g.keeps_model old
    -- and where nothing was unsynced, every image that a stop might leave meanwhile stands for what it did at first, and for what it
    -- did before any earlier stop;
    pub any_moment : g.keeps_model new → ((k : ℕ) → g.unsynced old k → ⊥) → LeavesOnly g old new (StandsAs (g.sector_count old) (g.content old))
    pub in_a_row : g.keeps_model new → ((k : ℕ) → g.unsynced old k → ⊥) → (first : Image) → StandsAs (g.sector_count old) first (g.content old)
        → LeavesOnly g old new (StandsAs (g.sector_count old) first)
    -- no sectors are asked for but those of an opening and of the file's pages, and what lies outside stays,
    pub asks : KeepsToFile f old new
    -- and none is written but those of an opening, and none at all where no page stands in a journal or a slot alone.
    pub touches : g.keeps_model new → Touches g (IsWrittenToOpen (g.sector_count old) (g.content old)) old new
    pub closed_unwritten : g.keeps_model new → IsClosed (g.sector_count old) (g.content old) → Touches g Nothing old new

  -- File f is written out:
  pub record WritesOut (f : ℕ) (old : D) (store : Store D) (before now : Option (List ℕ)) : Type 0 where
    -- the device did not fail, and its store may be read further,
    pub calm : g.failures (disk_of store) ≡ g.failures old
    pub ready : IsReadyStore g store
    -- what a stop left is carried out, and nothing is unsynced,
    pub carried : g.keeps_model (disk_of store) → IsCarriedOut (kept_of store) (g.content old)
    pub synced : g.keeps_model (disk_of store) → (k : ℕ) → g.unsynced (disk_of store) k → ⊥
    -- the image is that of a store,
    pub good_layout : g.keeps_model (disk_of store) → IsBadLayout (g.sector_count old) (g.content old) → ⊥
    pub good_journal : g.keeps_model (disk_of store) → IsBadJournalOf (g.sector_count old) (g.content old) → ⊥
    -- and the writer took the bytes of the file that it stood for.
    pub shown : g.keeps_model (disk_of store) → (files : ℕ → Option FileInfo) (pages : ℕ → ℕ → List ℕ) → StandsFor (g.sector_count old) files pages (g.content old)
        → (info : FileInfo) × (files f ≡ Some info) × Appends before now (bytes_of_pages (pages f) info)

  -- File f is not written out, for this fault:
  pub record RefusesToShow (f : ℕ) (old : D) (fault : ShowFault) (new : D) : Type 0 where
    -- the device failed where the fault is `Open Device` or `Read`, and with no other;
    pub device : fault ≡ Open Device → g.failures old < g.failures new
    pub read : fault ≡ Read → g.failures old < g.failures new
    pub calm : (fault ≡ Open Device → ⊥) → (fault ≡ Read → ⊥) → g.failures new ≡ g.failures old
    -- `BadLayout` and `BadJournal` come only where the image is so, a bad layout first, and nothing was written then;
    pub bad_layout : g.keeps_model new → fault ≡ Open BadLayout → IsBadLayout (g.sector_count old) (g.content old)
    pub bad_journal : g.keeps_model new → fault ≡ Open BadJournal → IsBadJournalOf (g.sector_count old) (g.content old)
    pub layout_first : g.keeps_model new → fault ≡ Open BadJournal → IsBadLayout (g.sector_count old) (g.content old) → ⊥
    pub unwritten : g.keeps_model new → (fault ≡ Open BadLayout) ⊎ (fault ≡ Open BadJournal) → Touches g Nothing old new
    -- any fault but `Open` comes only of the image of a store, and `NoFile` where it stands for no such file.
    pub good_layout : g.keeps_model new → ((other : OpenFault) → fault ≡ Open other → ⊥) → IsBadLayout (g.sector_count old) (g.content old) → ⊥
    pub good_journal : g.keeps_model new → ((other : OpenFault) → fault ≡ Open other → ⊥) → IsBadJournalOf (g.sector_count old) (g.content old) → ⊥
    pub no_file : fault ≡ NoFile → g.keeps_model new → (files : ℕ → Option FileInfo) (pages : ℕ → ℕ → List ℕ) → StandsFor (g.sector_count old) files pages (g.content old) → files f ≡ None

  -- Then the writer
  pub record WritesOutPart (f : ℕ) (old : D) (fault : ShowFault) (new : D) (before now : Option (List ℕ)) : Type 0 where
    -- took nothing where the image could not be opened,
    pub no_byte : (other : OpenFault) → fault ≡ Open other → now ≡ before
    -- and else a beginning of the bytes of the file that it stood for.
    pub begun : g.keeps_model new → (files : ℕ → Option FileInfo) (pages : ℕ → ℕ → List ℕ) (info : FileInfo) → StandsFor (g.sector_count old) files pages (g.content old)
        → files f ≡ Some info → WritesBeginning before now (bytes_of_pages (pages f) info)
