-- The store that is upgraded, of layout 2 or 3, which is only read.
use Rattle.std.specs.Prelude.{ℕ, ◌≤◌, ◌≡◌, ◌⊎◌, Bool, true, false, List, length, Option, Some, None}
use Rattle.std.specs.{Option.{option_map}, Str.{bytes_eq}}
use Rattle.vm_types.specs.declared.file.FileInfo.{FileInfo}
use Rattle.disk_model.specs.Stop.{Image}
use Rattle.disk_model.specs.declared.sector_disk.SectorDisk.{Ghosts}
use Rattle.sync_journal.specs.{OldJournal.{old_homes, old_sizes}, OldLayouts.{old_home_count, old_standing, IsBadOld}}
use Rattle.sync_journal.specs.declared.version.{Version.{Version}, Version.TheVariants.{Two, Three}}
use Rattle.file_store.specs.{Directory.{IsSoundDirectory}, Format.{IsKindSector}, Layout.{mark_3, pages_of_length}, Standing.{IsBadLayoutIn, OldStandsFor, info_at, standing_page_at}, Store.{entry_of}, Upgrade.{IsOldFile, IsOldHead, IsOldStore}}
use Rattle.file_store.specs.declared.{directory.Entry.{Entry}, old_store.OldStore.{OldStore}}

-- which layout the store in an image has: 3 where sector 1 is its kind, which a new one has before its mark, and otherwise 2
unfoldable pub version_of : List ℕ → Version
version_of sector = version_when (bytes_eq sector mark_3)
  where
    version_when : Bool → Version
    version_when true = Three
    version_when false = Two

abbrev pub version_in : Image → Version
version_in image = version_of (image 1)

-- The image has neither layout, or its journal is bad.
abbrev pub IsBadLayout : ℕ → Image → Type 0
IsBadLayout sectors image = IsBadLayoutIn (version_in image) sectors image

abbrev pub IsBadJournal : ℕ → Image → Type 0
IsBadJournal sectors image = IsBadOld (version_in image) sectors image

-- what its directory says of file f, and page k of that as it stands, with zeros past the file's end
abbrev pub file_info : Image → ℕ → Option FileInfo
file_info image f = info_at (version_in image) image f

abbrev pub standing_page : Image → ℕ → ℕ → List ℕ
standing_page image f k = standing_page_at (version_in image) (old_standing (version_in image) image) image f k

-- The image stands for these files with these pages.
abbrev pub StandsFor : ℕ → (ℕ → Option FileInfo) → (ℕ → ℕ → List ℕ) → Image → Type 0
StandsFor sectors files pages image = OldStandsFor (version_in image) sectors files pages image

-- what a look at it asks for, and a sector in which a page of a file stands
abbrev pub IsLookedAt : Image → ℕ → Type 0
IsLookedAt image k = IsKindSector k ⊎ IsOldHead (version_in image) image k

abbrev pub IsOldPage : Image → ℕ → Type 0
IsOldPage image k = IsOldFile (version_in image) image k

-- how many pages a file has, where there is one
abbrev pub entry_pages : Option Entry → ℕ
entry_pages None = 0
entry_pages (Some e) = pages_of_length e.info.length

-- the files of a store that was found
abbrev pub files_of : OldStore → ℕ → Option FileInfo
files_of store f = option_map (λ e. e.info) (entry_of store.directory f)

module _ {D : Type 0} (g : Ghosts D) where
  -- The pages of a store may be read:
  pub record IsReadable (store : OldStore) (disk : D) : Type 0 where
    -- its files have their homes on the device, each its own,
    pub sound : IsSoundDirectory (old_home_count store.journal.version (g.sector_count disk)) (entry_of store.directory)
    -- its journal names no more homes than it has room for,
    pub few : length (old_homes store.journal) ≤ (old_sizes store.journal).most
    -- and so says the image, which is of its layout.
    pub version : g.keeps_model disk → version_in (g.content disk) ≡ store.journal.version
    pub found : g.keeps_model disk → IsOldStore store.journal.version (g.content disk) store
