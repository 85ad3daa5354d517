-- What an upgrade makes of a store of layout 1: one of layout 2. And a store of any of the layouts that an upgrade reads.
use Rattle.std.specs.Prelude.{ℕ, ◌+◌, ◌<◌, ◌≤◌, ◌≡◌, ◌⊎◌, List, Option, None, Some, Result, IsErrOf}
use Rattle.vm_types.specs.declared.file.FileInfo.{FileInfo}
use Rattle.disk_model.specs.Stop.{Image}
use Rattle.sync_journal.specs.Layout.{first_home_sector, home_count, home_sector, IsPageSector}
use Rattle.sync_journal.specs.OldJournal.{StandsAsFound, IsLookedAtIn}
use Rattle.sync_journal.specs.OldLayouts.{old_place, old_standing}
use Rattle.sync_journal.specs.declared.version.Version.{Version}
use Rattle.sync_journal.specs.declared.version.Version.TheVariants.{One}
use Rattle.file_store.specs.Versions.{directory_of}
use Rattle.file_store.specs.declared.directory.Entry.{Entry}
use Rattle.file_store.specs.declared.old_store.OldStore.{OldStore}
use Rattle.file_store.specs.declared.faults.UpgradeFault.{UpgradeFault}
use Rattle.file_store.specs.declared.faults.UpgradeFault.TheVariants.{OldDevice, NewDevice}
use Rattle.file_store.specs.Layout.{mark, IsMark, pages_of_length, listed_files}
use Rattle.file_store.specs.Directory.{home_end, IsHomeOf}
use Rattle.file_store.specs.Format.{IsMarkSector, IsLayoutSector, HoldsPage, HasHead}
use Rattle.file_store.specs.Standing.{IsHeadIn, IsBadLayout, IsBadJournal, OldStandsFor, StandsFor, listed_entry, page_standing_in}
use Rattle.file_store.specs.Store.{entry_of}

-- the directory of a store of this layout, and its entry of file f
abbrev pub old_directory : Version → Image → List ℕ
old_directory version image = image (directory_of version)

abbrev pub old_entry : Version → Image → ℕ → Option Entry
old_entry version image f = listed_entry version image f

-- What is known of a store of this layout, whose device holds this image: the directory and its bytes, and where pages stand.
pub record IsOldStore (version : Version) (image : Image) (store : OldStore) : Type 0 where
  pub sector : store.sector ≡ old_directory version image
  pub entries : (f : ℕ) → entry_of store.directory f ≡ old_entry version image f
  pub stands : StandsAsFound store.journal image

-- a sector in which one of the first n pages of a file stands in the old store
abbrev pub IsOldPage : Version → Image → Entry → ℕ → ℕ → Type 0
IsOldPage version image e n k = (p : ℕ) × (p < n) × IsPageSector (old_place version image (e.first + p)) k

-- a sector in which a page of a file stands in the old store, where there is that file
abbrev pub IsOldEntry : Version → Image → Option Entry → ℕ → Type 0
IsOldEntry version image None k = ⊥
IsOldEntry version image (Some e) k = IsOldPage version image e (pages_of_length e.info.length) k

abbrev pub IsOldFile : Version → Image → ℕ → Type 0
IsOldFile version image k = (f : ℕ) × IsOldEntry version image (old_entry version image f) k

-- what an upgrade asks of the old store: mark and directory, the gate and where pages stand in the journal its map, and the pages of the files
-- where they stand
abbrev pub IsOldHead : Version → Image → ℕ → Type 0
IsOldHead version image k = IsHeadIn version k ⊎ IsLookedAtIn version image k

abbrev pub IsOldAsked : Version → Image → ℕ → Type 0
IsOldAsked version image k = IsOldHead version image k ⊎ IsOldFile version image k

-- No store on so many sectors has the homes of the files of this image.
pub data IsTooSmall (sectors : ℕ) (image : Image) : Type 0 where
  FewSectors : sectors < first_home_sector → IsTooSmall sectors image
  FewHomes : (f : ℕ) (e : Entry) → old_entry One image f ≡ Some e → home_count sectors < home_end e → IsTooSmall sectors image

-- The homes of a file hold its first n pages as they stand in the old store, with zeros past the file's end.
abbrev pub HoldsOldPages : Image → Entry → ℕ → Image → Type 0
HoldsOldPages old e n image = (k : ℕ) → k < n → HoldsPage (e.first + k) (page_standing_in (old_standing One old) k (Some e)) image

-- The homes hold the first n files as they stand in the old store.
abbrev pub HoldsOldFiles : Image → ℕ → Image → Type 0
HoldsOldFiles old n image = (f : ℕ) (e : Entry) → f < n → old_entry One old f ≡ Some e → HoldsOldPages old e (pages_of_length e.info.length) image

-- a sector of the homes of a file
abbrev pub IsFileSector : Entry → ℕ → Type 0
IsFileSector e k = (h : ℕ) × IsHomeOf e h × IsPageSector (home_sector h) k

-- a sector of the homes of a file, where there is one
abbrev pub IsEntrySector : Option Entry → ℕ → Type 0
IsEntrySector None k = ⊥
IsEntrySector (Some e) k = IsFileSector e k

-- a sector of the homes of the files with these entries
abbrev pub IsFilesSector : (ℕ → Option Entry) → ℕ → Type 0
IsFilesSector entries k = (f : ℕ) × IsEntrySector (entries f) k

-- all of a store of these files but the mark
abbrev pub IsCopiedSector : (ℕ → Option Entry) → ℕ → Type 0
IsCopiedSector entries k = IsLayoutSector k ⊎ IsFilesSector entries k

-- all of a store of the files of the old image
abbrev pub IsUpgradeSector : Image → ℕ → Type 0
IsUpgradeSector old k = IsMarkSector k ⊎ IsCopiedSector (old_entry One old) k

-- The image has all of an upgraded store but the mark: the directory as it was, a gate of zeros, and the homes.
pub record IsUnmarkedUpgrade (old image : Image) : Type 0 where
  pub head : HasHead (old_directory One old) image
  pub files : HoldsOldFiles old listed_files image

-- The image is an upgraded store: it stands for what the old one stands for.
pub record IsUpgradeOf (old_sectors sectors : ℕ) (old image : Image) : Type 0 where
  pub layout : IsBadLayout sectors image → ⊥
  pub journal : IsBadJournal sectors image → ⊥
  pub stands : (files : ℕ → Option FileInfo) (pages : ℕ → ℕ → List ℕ) → OldStandsFor One old_sectors files pages old → StandsFor sectors files pages image
  -- byte for byte
  pub made : IsUnmarkedUpgrade old image

-- An image that a stop may leave:
pub record IsUpgradeIfMarked (old_sectors sectors : ℕ) (old image : Image) : Type 0 where
  -- with its mark it is such a store,
  pub store : image 0 ≡ mark → IsUpgradeOf old_sectors sectors old image
  -- and with the mark of any layout, as which a torn one may read, it has all the rest of the store.
  pub made : IsMark (image 0) → IsUnmarkedUpgrade old image

-- A fault of a device is told exactly where that device failed in this call: whatever is told, the other one didn't fail.
pub record HasUpgradeCauses {T : Type 0} (old_before old_now new_before new_now : ℕ) (result : Result T UpgradeFault) : Type 0 where
  pub old_later : old_before ≤ old_now
  pub new_later : new_before ≤ new_now
  pub old_device : IsErrOf result OldDevice → old_before < old_now
  pub new_device : IsErrOf result NewDevice → new_before < new_now
  pub old_still : (IsErrOf result OldDevice → ⊥) → old_now ≡ old_before
  pub new_still : (IsErrOf result NewDevice → ⊥) → new_now ≡ new_before
