-- New pages of files, written where they are to stand: nobody looks there before the directory says that they are pages.
use Rattle.std.specs.Prelude.{ℕ, ◌+◌, ◌<◌, ◌≤◌, ◌≡◌, ◌⊎◌, Bool, true, false, nat_lt, List, length, replicate, slice_get, Option, Some, None, Result, OnOk, IsErrOf}
use Rattle.std.specs.Option.{option_map}
use Rattle.vm_types.specs.{Files.{inside_of}, declared.file.FilePage.{FilePage}}
use Rattle.disk_model.specs.{Moments.{AsksOnly, LeavesOnly}, Sectors.{part_of, sector_bytes}, Stop.{Image, NamesOnce}}
use Rattle.disk_model.specs.declared.sector_disk.{DiskFault.{DiskFault}, SectorDisk.{Ghosts}}
use Rattle.directories.specs.declared.entry.{Entry.{Entry}, Extent.{Extent}}
use Rattle.file_store.specs.Layout.{padded_page}
use Rattle.growth.specs.Changes.{entry_after}
use Rattle.growth.specs.declared.changes.Change.{Change}
use Rattle.pool_growth.specs.{Asked.{AreFileChanges}, Files.{files_after, file_page_count, added_count, IsNewPage}}
use Rattle.pool_journal.specs.{Blanking.{IsSlotSectorOf}, Journal.{IsPoolJournal}, Maps.{entries_of}, Pools.{pool_home, pool_gate, pool_standing, pool_stands, slot_by, IsPoolRest}, Sizes.{HasPool}}
use Rattle.pool_journal.specs.declared.pool.PoolJournal.{PoolJournal}
use Rattle.pool_growth.specs.Settling.{once_synced}
use Rattle.pool_store.specs.{Files.{info_of}, Places.{number_of}, Store.{home_by, info_by, IsDirectoryOn}}
use Rattle.pool_store.specs.declared.directory.Directory.{Directory}
use Rattle.sync_journal.specs.{Blocks.{LeavesInBlocks}, Layout.{IsPageSector}, Steps.{TakesPages, WritesInto}}
use Rattle.sync_journal.specs.declared.faults.CommitFault.{CommitFault}
use Rattle.sync_journal.specs.declared.faults.CommitFault.TheVariants.{Source}
use Rattle.sync_journal.specs.declared.source.PageSource as Pages

-- the home that a page has after changes
abbrev pub home_then : Directory → List Change → Option FilePage → Option ℕ
home_then directory changes None = None
home_then directory changes (Some p) = home_by (entry_after directory.entries.items changes p.file) p.page

-- that of page i of some new ones
abbrev pub new_home : Directory → List Change → List FilePage → ℕ → ℕ
new_home directory changes fresh i = number_of (home_then directory changes (slice_get fresh i))

-- how many bytes of a page lie inside its file after changes
abbrev pub inside_then : Directory → List Change → Option FilePage → ℕ
inside_then directory changes None = 0
inside_then directory changes (Some p) = inside_of (files_after (info_by directory) changes p.file) p.page

-- what is given for new pages, with zeros past their files' ends
abbrev pub cut_new : Directory → List Change → List FilePage → (ℕ → List ℕ) → ℕ → List ℕ
cut_new directory changes fresh given i = padded_page (inside_then directory changes (slice_get fresh i)) (given i)

-- a home of a new page
abbrev pub IsNewHome : Directory → List Change → ℕ → Type 0
IsNewHome directory changes h = (p : FilePage) × IsNewPage (info_by directory) changes p.file p.page × (home_then directory changes (Some p) ≡ Some h)

-- a home of a page of a file from page `low` up to page `high`, which is none of them
abbrev pub IsHomeOfPages : Option Entry → ℕ → ℕ → ℕ → Type 0
IsHomeOfPages entry low high h = (k : ℕ) × (low ≤ k) × (k < high) × (home_by entry k ≡ Some h)

-- a home of a new page of one change
abbrev pub IsNewHomeOf : Directory → Change → ℕ → Type 0
IsNewHomeOf directory c = IsHomeOfPages c.entry (file_page_count (info_by directory c.file)) (file_page_count (option_map info_of c.entry))

-- a home of an extent from place `low` up to place `high`, which is none of them
abbrev pub IsHomeOfPart : Extent → ℕ → ℕ → ℕ → Type 0
IsHomeOfPart extent low high h = (extent.first + low ≤ h) × (h < extent.first + high)

-- a change is one of those that a store with n homes may have
abbrev pub IsFileChange : ℕ → Directory → Change → Type 0
IsFileChange n directory c = (changes : List Change) × AreFileChanges n directory changes × (i : ℕ) × (slice_get changes i ≡ Some c)

-- changes bring more new pages than are given: each other one becomes zeros
abbrev pub is_sparse : Directory → List Change → List FilePage → Bool
is_sparse directory changes fresh = nat_lt (length fresh) (added_count (info_by directory) changes)

-- the first sector of the page that stands for the home of new page i under a journal's map
abbrev pub new_at : PoolJournal → Directory → List Change → List FilePage → ℕ → ℕ
new_at journal directory changes fresh i = pool_stands journal.sizes.blocks (new_home directory changes fresh i) (slot_by journal.sizes.blocks (entries_of journal.map) (new_home directory changes fresh i))

-- a sector of one of the first n of these new pages
abbrev pub IsPutSector : PoolJournal → Directory → List Change → List FilePage → ℕ → ℕ → Type 0
IsPutSector journal directory changes fresh n k = (i : ℕ) × (i < n) × IsPageSector (new_at journal directory changes fresh i) k

-- a sector of one of some homes, or of a slot that is given to it
abbrev pub IsSectorFor : PoolJournal → (ℕ → Type 0) → ℕ → Type 0
IsSectorFor journal Some_home k = (h : ℕ) × Some_home h
    × (IsPageSector (pool_home journal.sizes.blocks h) k ⊎ IsSlotSectorOf journal.sizes.blocks (entries_of journal.map) h k)

-- a sector of the home of any new page, or of a slot that is given to it
abbrev pub IsNewSector : PoolJournal → Directory → List Change → ℕ → Type 0
IsNewSector journal directory changes = IsSectorFor journal (IsNewHome directory changes)

-- a sector that new pages ask for, of which the first `put` are put where they are to stand: any of a new page, where some are not given
abbrev pub IsBroughtSector : PoolJournal → Directory → List Change → List FilePage → ℕ → ℕ → Type 0
IsBroughtSector journal directory changes fresh put k = ((is_sparse directory changes fresh ≡ true) × IsNewSector journal directory changes k) ⊎ IsPutSector journal directory changes fresh put k

-- An image in which nothing but some homes stands otherwise than in the old one:
pub record LeavesOtherHomes (m n : ℕ) (Some_home : ℕ → Type 0) (old image : Image) : Type 0 where
  -- each other home stands as it did,
  pub stands : (h i : ℕ) → (Some_home h → ⊥) → i < 8 → pool_standing m n image h i ≡ pool_standing m n old h i
  -- and what lies outside of gate, maps, slots and homes is as it was.
  pub outside : (k : ℕ) → (k < pool_gate) ⊎ (pool_home m n ≤ k) → image k ≡ old k

-- the first c of these new pages are held there as given, with zeros past their files' ends
abbrev pub HoldsNewPages : PoolJournal → Directory → List Change → List FilePage → (ℕ → List ℕ) → ℕ → Image → Type 0
HoldsNewPages journal directory changes fresh given c image = (i j : ℕ) → i < c → j < 8
    → image (new_at journal directory changes fresh i + j) ≡ part_of (cut_new directory changes fresh given i) j

-- they stand as given, with zeros past their files' ends
abbrev pub NewPagesStand : ℕ → ℕ → Directory → List Change → List FilePage → (ℕ → List ℕ) → ℕ → Image → Type 0
NewPagesStand m n directory changes fresh given c image = (i j : ℕ) → i < c → j < 8
    → pool_standing m n image (new_home directory changes fresh i) j ≡ part_of (cut_new directory changes fresh given i) j

-- and all other new pages stand as zeros
abbrev pub OthersAreBlank : ℕ → ℕ → Directory → List Change → List FilePage → ℕ → Image → Type 0
OthersAreBlank m n directory changes fresh c image = (h j : ℕ) → IsNewHome directory changes h → ((i : ℕ) → i < c → new_home directory changes fresh i ≡ h → ⊥) → j < 8
    → pool_standing m n image h j ≡ replicate sector_bytes 0

module _ {D : Type 0} (g : Ghosts D) where
  -- Journal and directory are of a store that lies on a device, whatever this holds:
  pub record LiesOn (journal : PoolJournal) (directory : Directory) (disk : D) : Type 0 where
    pub is_journal : IsPoolJournal journal
    pub pool : HasPool g journal.sizes disk
    pub is_directory : IsDirectoryOn journal.sizes.homes directory

  -- some homes hold zeros where they stand
  abbrev pub AreZeros : PoolJournal → (ℕ → Type 0) → D → Type 0
  AreZeros journal Some_home disk = (h j : ℕ) → Some_home h → j < 8
      → g.content disk (pool_stands journal.sizes.blocks h (slot_by journal.sizes.blocks (entries_of journal.map) h) + j) ≡ replicate sector_bytes 0

  -- some homes become zeros where they are to stand, and wherever a slot is given to them
  abbrev pub BlanksHomes : PoolJournal → (ℕ → Type 0) → D → D → Result (Unit {0}) DiskFault → Type 0
  BlanksHomes journal Some_home old new = WritesInto g (IsSectorFor journal Some_home) (IsSectorFor journal Some_home) (AreZeros journal Some_home new) old new

  -- those of all new pages
  abbrev pub BlanksNewPages : PoolJournal → Directory → List Change → D → D → Result (Unit {0}) DiskFault → Type 0
  BlanksNewPages journal directory changes = BlanksHomes journal (IsNewHome directory changes)

  -- those of the new pages of one change
  abbrev pub BlanksPagesOf : PoolJournal → Directory → Change → D → D → Result (Unit {0}) DiskFault → Type 0
  BlanksPagesOf journal directory c = BlanksHomes journal (IsNewHomeOf directory c)

  -- those of a part of an extent
  abbrev pub BlanksPart : PoolJournal → Extent → ℕ → ℕ → D → D → Result (Unit {0}) DiskFault → Type 0
  BlanksPart journal extent low high = BlanksHomes journal (IsHomeOfPart extent low high)

module _ {D S : Type 0} (g : Ghosts D) (s : Pages.Ghosts S) where
  -- The first `put` of these new pages are put where they are to stand:
  pub record PutsNewPages (journal : PoolJournal) (directory : Directory) (changes : List Change) (fresh : List FilePage) (put : ℕ) (old new : D) (from left : S) (result : Result (Unit {0}) CommitFault) : Type 0 where
    -- they stand as given,
    pub puts : g.keeps_model new → s.keeps_model left → OnOk result (NewPagesStand journal.sizes.blocks journal.sizes.homes directory changes fresh (s.pages from) put (g.content new))
    -- every other new page stands as zeros, where some are not given,
    pub blanks : g.keeps_model new → is_sparse directory changes fresh ≡ true → OnOk result (OthersAreBlank journal.sizes.blocks journal.sizes.homes directory changes fresh put (g.content new))
    -- and the device is at rest as it was.
    pub rest : g.keeps_model new → OnOk result (IsPoolRest g journal.sizes.blocks journal.sizes.homes journal.second (entries_of journal.map) new)
    -- Whatever comes, it is at rest but for what is unsynced, and where none is put the source has not failed.
    pub rest_once_synced : g.keeps_model new → IsPoolRest (once_synced g) journal.sizes.blocks journal.sizes.homes journal.second (entries_of journal.map) new
    pub some : IsErrOf result Source → put ≡ 0 → ⊥
    -- Every image of a stop at any moment of the call leaves the other homes, even one that spoils whole blocks of 4,096 bytes.
    pub any_moment : g.keeps_model new → LeavesOnly g old new (LeavesOtherHomes journal.sizes.blocks journal.sizes.homes (IsNewHome directory changes) (g.content old))
    pub blocks : g.keeps_model new → LeavesInBlocks g (IsNewSector journal directory changes)
        (LeavesOtherHomes journal.sizes.blocks journal.sizes.homes (IsNewHome directory changes) (g.content old)) old new
    -- No sector is written or asked for but those of new pages, and where all of these are given only those in which they stand, each once at most; and each fault has its cause.
    pub takes : TakesPages g s (IsNewSector journal directory changes) old new from left result
    pub open takes use *
    pub asks_device : AsksOnly g (IsBroughtSector journal directory changes fresh put) old new
    pub once : is_sparse directory changes fresh ≡ false → NamesOnce (IsPutSector journal directory changes fresh put) (g.asked old) (g.asked new)
