-- The files that an image of a store stands for, of layout 2 or 4, which have marks of their own.
use Rattle.std.specs.Prelude.{ℕ, ◌*◌, ◌≡◌, ◌⊎◌, Bool, true, false, List, drop, Option}
use Rattle.std.specs.Option.{option_map}
use Rattle.std.specs.Str.{bytes_eq}
use Rattle.byteorder.specs.Endian.{little_number}
use Rattle.vm_types.specs.{Files.{Contents}, declared.file.FileInfo.{FileInfo}}
use Rattle.disk_model.specs.{Stop.{Image}}
use Rattle.sync_journal.specs.{Commit.{one_journal}, Layout.{page_limit}}
use Rattle.pool_journal.specs.{Journal.{free_count}, Pools.{pool_entry, pool_home_count, pool_named}}
use Rattle.file_store.specs.Layout.{pool_mark}
use Rattle.file_store.specs.Standing as InFiles
use Rattle.file_store.specs.Standing.{IsPageOf, bytes_of_pages}
use Rattle.pool_store.specs.Files.{StoreLayout, info_in, page_in}
use Rattle.pool_store.specs.Resume.{pool_on}
use Rattle.pool_store.specs.Resume as InPool
use Rattle.pool_store.specs.Opened as Opened

-- whether an image's mark is that of a store whose pages stay in a pool
abbrev pub is_pool : Image → Bool
is_pool image = bytes_eq (image 0) pool_mark

-- the blocks of a map and the pages of the directory, as sector 1 of such a store has them
abbrev pub map_blocks : Image → ℕ
map_blocks image = little_number 4 (drop 8 (image 1))

abbrev pub directory_pages : Image → ℕ
directory_pages image = little_number 4 (drop 12 (image 1))

-- and its layout, on a device of so many sectors
abbrev pub pool_of : ℕ → Image → StoreLayout (Bool × (Bool → ℕ → ℕ))
pool_of sectors image = pool_on (map_blocks image) (directory_pages image) sectors

-- An image of a store says
pub record ImageSays : Type 1 where
  -- what is fixed of file f, and how its page k stands,
  pub info : ℕ → Option FileInfo
  pub page : ℕ → ℕ → List ℕ
  -- that it has no layout of a store, or a journal that no commit writes,
  pub HasBadLayout : Type 0
  pub HasBadJournal : Type 0
  -- how many pages every commit may take as long as none took more, and how many the next one may take,
  pub most : ℕ
  pub free : ℕ
  -- that no page stands in a journal or a slot alone,
  pub IsClosed : Type 0
  -- which sectors lie outside of gate, journals, pool and homes,
  pub IsOutside : ℕ → Type 0
  -- and which ones an opening asks for, and writes.
  pub IsAsked : ℕ → Type 0
  pub IsWritten : ℕ → Type 0

-- by whether it is one of a pool, on a device of so many sectors
abbrev pub says_by : Bool → ℕ → Image → ImageSays
says_by false sectors image = record {
  info = InFiles.file_info image;
  page = InFiles.standing_page image;
  HasBadLayout = InFiles.IsBadLayout sectors image;
  HasBadJournal = InFiles.IsBadJournal sectors image;
  most = page_limit;
  free = page_limit;
  IsClosed = one_journal.IsClosed image;
  IsOutside = one_journal.IsOutside image sectors;
  IsAsked = InFiles.IsAskedToOpen image;
  IsWritten = one_journal.IsRecovered image sectors;
}
says_by true sectors image = record {
  info = info_in (pool_of sectors image) image;
  page = page_in (pool_of sectors image) image;
  HasBadLayout = (pool_of sectors image).IsBad sectors image;
  HasBadJournal = (pool_of sectors image).pages.IsBad sectors image;
  most = 504 * map_blocks image;
  free = free_count (map_blocks image) (pool_entry (map_blocks image) (pool_home_count (map_blocks image) sectors) (pool_named image) image);
  IsClosed = (pool_of sectors image).pages.IsClosed image;
  IsOutside = (pool_of sectors image).pages.IsOutside image sectors;
  IsAsked = InPool.IsAskedToOpen sectors image;
  IsWritten = Opened.IsWrittenToOpen sectors image;
}

abbrev pub says : ℕ → Image → ImageSays
says sectors image = says_by (is_pool image) sectors image

-- The words of an image, each by itself.
abbrev pub IsBadLayout : ℕ → Image → Type 0
IsBadLayout sectors image = (says sectors image).HasBadLayout

abbrev pub IsBadJournal : ℕ → Image → Type 0
IsBadJournal sectors image = (says sectors image).HasBadJournal

abbrev pub most_pages : ℕ → Image → ℕ
most_pages sectors image = (says sectors image).most

abbrev pub free_pages : ℕ → Image → ℕ
free_pages sectors image = (says sectors image).free

abbrev pub IsClosed : ℕ → Image → Type 0
IsClosed sectors image = (says sectors image).IsClosed

abbrev pub IsOutside : ℕ → Image → ℕ → Type 0
IsOutside sectors image = (says sectors image).IsOutside

abbrev pub IsAskedToOpen : ℕ → Image → ℕ → Type 0
IsAskedToOpen sectors image = (says sectors image).IsAsked

abbrev pub IsWrittenToOpen : ℕ → Image → ℕ → Type 0
IsWrittenToOpen sectors image = (says sectors image).IsWritten

abbrev pub file_info : ℕ → Image → ℕ → Option FileInfo
file_info sectors image = (says sectors image).info

abbrev pub standing_page : ℕ → Image → ℕ → ℕ → List ℕ
standing_page sectors image = (says sectors image).page

-- the bytes of file f as they stand
abbrev pub standing_file : ℕ → Image → ℕ → Option (List ℕ)
standing_file sectors image f = option_map (bytes_of_pages (standing_page sectors image f)) (file_info sectors image f)

-- What an image says is that it stands for these files, with these bytes in each of their pages:
pub record SaysFiles (image : ImageSays) (files : ℕ → Option FileInfo) (pages : ℕ → ℕ → List ℕ) : Type 0 where
  -- it has the layout of a store,
  pub layout : image.HasBadLayout → ⊥
  -- and a journal that a commit wrote,
  pub journal : image.HasBadJournal → ⊥
  -- and says so of each file and of each of its pages.
  pub facts : (f : ℕ) → image.info f ≡ files f
  pub same : (f k : ℕ) → IsPageOf files f k → image.page f k ≡ pages f k

abbrev pub StandsFor : ℕ → (ℕ → Option FileInfo) → (ℕ → ℕ → List ℕ) → Image → Type 0
StandsFor sectors files pages image = SaysFiles (says sectors image) files pages

-- the files with the pages of before, or with those of after
abbrev pub StandsForEither : ℕ → (ℕ → Option FileInfo) → (ℕ → ℕ → List ℕ) → (ℕ → ℕ → List ℕ) → Image → Type 0
StandsForEither sectors files before after image = StandsFor sectors files before image ⊎ StandsFor sectors files after image

-- the image stands for these contents
abbrev pub StandsForContents : ℕ → Contents → Image → Type 0
StandsForContents sectors contents image = StandsFor sectors contents.files contents.pages image

-- or for one of two
abbrev pub StandsForEitherContents : ℕ → Contents → Contents → Image → Type 0
StandsForEitherContents sectors before after image = StandsForContents sectors before image ⊎ StandsForContents sectors after image

-- how many pages a commit may take where no page stands in a slot: of a pool as many as both bodies have
abbrev pub capacity_by : Bool → ℕ → ℕ
capacity_by false most = most
capacity_by true most = 2 * most

abbrev pub capacity_pages : ℕ → Image → ℕ
capacity_pages sectors image = capacity_by (is_pool image) (most_pages sectors image)

-- every commit may take as many pages as the other image says
abbrev pub SaysMostOf : ℕ → Image → Image → Type 0
SaysMostOf sectors old image = most_pages sectors image ≡ most_pages sectors old

-- it stands for what the other image stands for
abbrev pub StandsAs : ℕ → Image → Image → Type 0
StandsAs sectors old image = (files : ℕ → Option FileInfo) (pages : ℕ → ℕ → List ℕ) → StandsFor sectors files pages old → StandsFor sectors files pages image
