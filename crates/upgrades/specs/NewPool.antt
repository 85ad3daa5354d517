-- What a store of layout 4 is made of whose files are those of an older one: each keeps its number, and has its homes in one extent.
use Rattle.std.specs.Prelude.{ℕ, zero, suc, ◌+◌, ◌*◌, ◌^◌, ◌<◌, ◌≤◌, ◌≡◌, ◌⊎◌, List, length, get_or, Option, Some, None}
use Rattle.std.specs.Option.{option_map}
use Rattle.vm_types.specs.declared.file.FileInfo.{FileInfo}
use Rattle.disk_model.specs.{Sectors.{part_of}, Stop.{Image}}
use Rattle.pool_journal.specs.{Clearing.{IsEmptyPool, IsHeadOfPool}, Pools.{pool_home, pool_home_count}}
use Rattle.directories.specs.{Entries.{SaysEntry, entry_bytes}, Kinds.{IsKind}}
use Rattle.directories.specs.declared.entry.Entry.{Entry}
use Rattle.file_store.specs.Layout.{IsMark, pages_of_length, listed_files}
use Rattle.pool_store.specs.{Files.{StandsFor as PoolStandsFor}, Format.{IsHomeSector, IsPoolStoreSector, extents_made, extents_room, home_part, new_pages}, Pools.{entry_standing, pool_mark}, Resume.{pool_on}}
use Rattle.upgrades.specs.Old.{IsBadLayout, StandsFor, file_info, standing_page}

-- the files of a list
abbrev pub files_in : List (Option FileInfo) → ℕ → Option FileInfo
files_in list f = get_or list f None

-- and they are all of lengths of four bytes, as those that an older store's directory can say
abbrev pub HaveShortLengths : List (Option FileInfo) → Type 0
HaveShortLengths list = (f : ℕ) (info : FileInfo) → files_in list f ≡ Some info → info.length < 2 ^ 32

-- how many pages a file has, where there is one
abbrev pub pages_of : Option FileInfo → ℕ
pages_of None = 0
pages_of (Some info) = pages_of_length info.length

-- how many the first n files have
unfoldable pub pages_before : (ℕ → Option FileInfo) → ℕ → ℕ
pages_before files zero = 0
pages_before files (suc n) = pages_before files n + pages_of (files n)

-- the first home of file f: behind the directory and the homes of the files before it
abbrev pub first_of : (ℕ → Option FileInfo) → ℕ → ℕ
first_of files f = new_pages + pages_before files f

-- the entry of a file whose homes follow one another from this one on: one extent, none of an empty file
abbrev pub entry_made : ℕ → FileInfo → Entry
entry_made first info = record {
  read_only = info.read_only;
  length = info.length;
  extent_count = length (extents_made first (pages_of_length info.length));
  extents = extents_room first (pages_of_length info.length);
}

abbrev pub entry_kept : (ℕ → Option FileInfo) → ℕ → Option Entry
entry_kept files f = option_map (entry_made (first_of files f)) (files f)

-- A device of so many sectors has room for a store of these files with maps of m blocks: for pool and directory, and for the homes of the files.
pub record HasRoomFor (m sectors : ℕ) (files : ℕ → Option FileInfo) : Type 0 where
  pub front : pool_home m new_pages ≤ sectors
  pub homes : first_of files listed_files ≤ pool_home_count m sectors

-- or it has not
pub data IsTooSmall (m sectors : ℕ) (files : ℕ → Option FileInfo) : Type 0 where
  FewSectors : sectors < pool_home m new_pages → IsTooSmall m sectors files
  FewHomes : pool_home_count m sectors < first_of files listed_files → IsTooSmall m sectors files

-- A page of the directory is made: it is a page, and says what each of its 16 files is.
pub record IsDirectoryPage (files : ℕ → Option FileInfo) (q : ℕ) (page : List ℕ) : Type 0 where
  pub size : length page ≡ 4096
  pub says : (i : ℕ) → i < 16 → SaysEntry (entry_bytes page i) (entry_kept files (16 * q + i))

-- The homes hold the first q pages of the directory.
abbrev pub HoldsDirectory : ℕ → (ℕ → Option FileInfo) → ℕ → Image → Type 0
HoldsDirectory m files q image = (f : ℕ) → f < 16 * q → SaysEntry (entry_standing (home_part m image) f) (entry_kept files f)

-- The sectors from one on hold the first n of these pages.
abbrev pub HoldsPages : ℕ → (ℕ → List ℕ) → ℕ → Image → Type 0
HoldsPages start pages n image = (k i : ℕ) → k < n → i < 8 → image (start + 8 * k + i) ≡ part_of (pages k) i

-- The homes hold the first n files, whole pages.
abbrev pub HoldsFiles : ℕ → (ℕ → Option FileInfo) → (ℕ → ℕ → List ℕ) → ℕ → Image → Type 0
HoldsFiles m files pages n image = (f : ℕ) → f < n → HoldsPages (pool_home m (first_of files f)) (pages f) (pages_of (files f)) image

-- gate and first block of the first map, and the directory
abbrev pub IsTableSector : ℕ → ℕ → Type 0
IsTableSector m k = IsHeadOfPool m k ⊎ IsHomeSector m 0 new_pages k

-- An empty pool, and the directory.
pub record HasTables (m : ℕ) (files : ℕ → Option FileInfo) (image : Image) : Type 0 where
  pub empty : IsEmptyPool m image
  pub directory : HoldsDirectory m files new_pages image

-- The image has all of the store but kind and mark, byte for byte: an empty pool, the directory in the first homes, and behind it the files, one after
-- the other in the order of their numbers.
pub record IsInnerUpgrade (m : ℕ) (files : ℕ → Option FileInfo) (pages : ℕ → ℕ → List ℕ) (image : Image) : Type 0 where
  pub tables : HasTables m files image
  pub open tables use *
  pub held : HoldsFiles m files pages listed_files image

-- It has all but the mark.
pub record IsUnmarkedUpgrade (m : ℕ) (files : ℕ → Option FileInfo) (pages : ℕ → ℕ → List ℕ) (image : Image) : Type 0 where
  pub kind : IsKind m new_pages (image 1)
  pub inner : IsInnerUpgrade m files pages image
  pub open inner use *

-- all of a store of the files of the old image
abbrev pub IsUpgradeSector : ℕ → Image → ℕ → Type 0
IsUpgradeSector m old k = IsPoolStoreSector m (pages_before (file_info old) listed_files) k

-- The image is an upgraded store on a device of so many sectors:
pub record IsUpgradeOf (m old_sectors sectors : ℕ) (old image : Image) : Type 0 where
  -- one of layout 4,
  pub good : (pool_on m new_pages sectors).IsBad sectors image → ⊥
  -- it stands for what the old one stands for,
  pub stands : (files : ℕ → Option FileInfo) (pages : ℕ → ℕ → List ℕ) → StandsFor old_sectors files pages old
      → PoolStandsFor (pool_on m new_pages sectors) sectors files pages image
  -- and is made so, byte for byte.
  pub made : IsUnmarkedUpgrade m (file_info old) (standing_page old) image

-- An image that a stop may leave:
pub record IsUpgradeIfMarked (m old_sectors sectors : ℕ) (old image : Image) : Type 0 where
  -- with the mark it is such a store,
  pub store : image 0 ≡ pool_mark → IsUpgradeOf m old_sectors sectors old image
  -- with the mark of any layout, as which a torn one may read, it has all the rest of the store,
  pub made : IsMark (image 0) → IsUnmarkedUpgrade m (file_info old) (standing_page old) image
  -- and it is no store of layout 2 or 3, whatever a torn mark looks like.
  pub older : IsBadLayout sectors image

-- An image with kind and mark is such a store.
abbrev pub IsUpgradeIfHeaded : ℕ → ℕ → ℕ → Image → Image → Type 0
IsUpgradeIfHeaded m old_sectors sectors old image = IsKind m new_pages (image 1) → image 0 ≡ pool_mark → IsUpgradeOf m old_sectors sectors old image
