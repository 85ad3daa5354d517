-- The files that an image of a store stands for. The format is our own.
use Rattle.std.specs.Prelude.{ℕ, ◌+◌, ◌*◌, ◌<◌, ◌≡◌, ◌≢◌, ◌⊎◌, List, [], take, Option, Some, None}
use Rattle.vm_types.specs.Limits.{file_limit, file_page_limit}
use Rattle.std.specs.Option.{option_map}
use Rattle.vm_types.specs.declared.file.FileInfo.{FileInfo}
use Rattle.disk_model.specs.Stop.{Image}
use Rattle.sync_journal.specs.OldLayouts.{old_standing, IsBadOld}
use Rattle.sync_journal.specs.Standing.{standing_single, IsAskedIn, IsBadSingle}
use Rattle.disk_model.specs.Sectors.{joined}
use Rattle.file_store.specs.declared.directory.Entry.{Entry}
use Rattle.file_store.specs.Layout.{pages_of_length, bytes_inside, padded_page}
use Rattle.file_store.specs.Versions.{homes_of, home_pages_of, directory_of, mark_of}
use Rattle.sync_journal.specs.declared.version.Version.{Version}
use Rattle.sync_journal.specs.declared.version.Version.TheVariants.{Two}
use Rattle.file_store.specs.Directory.{entry_in, IsBadDirectory}

-- what stands for the home pages, and that an open gate stands before a bad map
abbrev pub standing : Image → ℕ → ℕ → List ℕ
standing image h i = standing_single image h i

abbrev pub IsBadJournal : ℕ → Image → Type 0
IsBadJournal sectors image = IsBadSingle sectors image

-- An image without the layout of a store of this version: the device is too small, the mark is missing, or the directory is bad.
pub data IsBadLayoutIn (version : Version) (sectors : ℕ) (image : Image) : Type 0 where
  TooSmall : sectors < homes_of version → IsBadLayoutIn version sectors image
  Unmarked : image 0 ≢ mark_of version → IsBadLayoutIn version sectors image
  BadDirectory : IsBadDirectory (home_pages_of version sectors) (image (directory_of version)) → IsBadLayoutIn version sectors image

-- mark and directory
abbrev pub IsHeadIn : Version → ℕ → Type 0
IsHeadIn version k = (k ≡ 0) ⊎ (k ≡ directory_of version)

-- what an opening of this image asks for: the mark, the directory, and what a recovery asks for
abbrev pub IsAskedToOpen : Image → ℕ → Type 0
IsAskedToOpen image k = IsHeadIn Two k ⊎ IsAskedIn image k

-- the directory's entry of file f, of an image of this layout, and of one of layout 2
abbrev pub listed_entry : Version → Image → ℕ → Option Entry
listed_entry version image f = entry_in (image (directory_of version)) f

abbrev pub directory_entry : Image → ℕ → Option Entry
directory_entry image f = listed_entry Two image f

-- what the directory says of file f
abbrev pub info_at : Version → Image → ℕ → Option FileInfo
info_at version image f = option_map (λ e. e.info) (listed_entry version image f)

abbrev pub file_info : Image → ℕ → Option FileInfo
file_info image f = info_at Two image f

-- page k of a file with this entry, where this stands for the homes: the file's bytes, and zeros past its end
abbrev pub page_standing_in : (ℕ → ℕ → List ℕ) → ℕ → Option Entry → List ℕ
page_standing_in stands k None = []
page_standing_in stands k (Some e) = padded_page (bytes_inside e.info.length k) (joined (stands (e.first + k)) 8)

abbrev pub page_standing : Image → ℕ → Option Entry → List ℕ
page_standing image k entry = page_standing_in (standing image) k entry

-- page k of file f as it stands
abbrev pub standing_page_at : Version → (ℕ → ℕ → List ℕ) → Image → ℕ → ℕ → List ℕ
standing_page_at version stands image f k = page_standing_in stands k (listed_entry version image f)

abbrev pub standing_page : Image → ℕ → ℕ → List ℕ
standing_page image f k = standing_page_at Two (standing image) image f k

-- page k begins inside file f
abbrev pub IsPageOf : (ℕ → Option FileInfo) → ℕ → ℕ → Type 0
IsPageOf files f k = (info : FileInfo) × (files f ≡ Some info) × (4096 * k < info.length)

-- Files that a directory of any layout can say: their numbers are under 4,096, and they have 2 ^ 30 pages at most.
pub record AreBounded (files : ℕ → Option FileInfo) : Type 0 where
  pub each : (f k : ℕ) → IsPageOf files f k → (f < file_limit) × (k < file_page_limit)

-- The image stands for these files, with these bytes in each of their pages: it has the layout of a store, and its
-- journal is one that a commit wrote.
pub record StandsForIn (version : Version) (BadJournal : Type 0) (stands : ℕ → ℕ → List ℕ) (sectors : ℕ) (files : ℕ → Option FileInfo) (pages : ℕ → ℕ → List ℕ) (image : Image) : Type 0 where
  pub layout : IsBadLayoutIn version sectors image → ⊥
  pub journal : BadJournal → ⊥
  pub facts : (f : ℕ) → info_at version image f ≡ files f
  pub same : (f k : ℕ) → IsPageOf files f k → standing_page_at version stands image f k ≡ pages f k

-- The same of stores of layout 2, and of those of any of these layouts, from which an upgrade makes one of a later layout.
abbrev pub IsBadLayout : ℕ → Image → Type 0
IsBadLayout sectors image = IsBadLayoutIn Two sectors image

abbrev pub StandsFor : ℕ → (ℕ → Option FileInfo) → (ℕ → ℕ → List ℕ) → Image → Type 0
StandsFor sectors files pages image = StandsForIn Two (IsBadJournal sectors image) (standing image) sectors files pages image

abbrev pub OldStandsFor : Version → ℕ → (ℕ → Option FileInfo) → (ℕ → ℕ → List ℕ) → Image → Type 0
OldStandsFor version sectors files pages image = StandsForIn version (IsBadOld version sectors image) (old_standing version image) sectors files pages image

-- the bytes of a file of these pages
abbrev pub bytes_of_pages : (ℕ → List ℕ) → FileInfo → List ℕ
bytes_of_pages pages info = take info.length (joined pages (pages_of_length info.length))

-- the bytes of file f as they stand
abbrev pub standing_file : Image → ℕ → Option (List ℕ)
standing_file image f = option_map (bytes_of_pages (standing_page image f)) (file_info image f)

-- it stands for what the other image stands for
abbrev pub StandsAs : ℕ → Image → Image → Type 0
StandsAs sectors old image = (files : ℕ → Option FileInfo) (pages : ℕ → ℕ → List ℕ) → StandsFor sectors files pages old → StandsFor sectors files pages image
