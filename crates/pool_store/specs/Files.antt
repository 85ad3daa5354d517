-- What an image says of files, whichever the layout of its store: a layout of stores as a value.
use Rattle.std.specs.Prelude.{ℕ, ◌≡◌, ◌⊎◌, List, [], Option, Some, None}
use Rattle.std.specs.Option.{option_map}
use Rattle.vm_types.specs.Files.{bytes_inside}
use Rattle.vm_types.specs.declared.file.FileInfo.{FileInfo}
use Rattle.disk_model.specs.{Sectors.{joined}, Stop.{Image}}
use Rattle.sync_journal.specs.Layouts.{Layout}
use Rattle.directories.specs.Homes.{home_of_page}
use Rattle.directories.specs.declared.entry.Entry.{Entry}
use Rattle.file_store.specs.Layout.{padded_page}
use Rattle.file_store.specs.Standing.{IsPageOf}

-- A layout of stores says of an image
pub record StoreLayout (S : Type 0) : Type 1 where
  -- how its home pages stand,
  pub pages : Layout S
  -- what is written down of file f,
  pub entry : Image → ℕ → Option Entry
  -- and that a device of so many sectors has no such store.
  pub IsBad : ℕ → Image → Type 0

-- what is fixed of a file
abbrev pub info_of : Entry → FileInfo
info_of e = record { length = e.length; read_only = e.read_only }

-- the page of which so many bytes lie inside its file, where this stands for its home: these bytes, and zeros past them
abbrev pub page_at : (ℕ → ℕ → List ℕ) → ℕ → Option ℕ → List ℕ
page_at stands inside None = []
page_at stands inside (Some h) = padded_page inside (joined (stands h) 8)

-- page k of a file with this entry
abbrev pub page_of : (ℕ → ℕ → List ℕ) → ℕ → Option Entry → List ℕ
page_of stands k None = []
page_of stands k (Some e) = page_at stands (bytes_inside e.length k) (home_of_page e k)

module _ {S : Type 0} (layout : StoreLayout S) where
  -- what is fixed of file f, and its page k as it stands
  abbrev pub info_in : Image → ℕ → Option FileInfo
  info_in image f = option_map info_of (layout.entry image f)

  abbrev pub page_in : Image → ℕ → ℕ → List ℕ
  page_in image f k = page_of (layout.pages.standing image) k (layout.entry image f)

  -- The image stands for these files, with these bytes in each of their pages:
  pub record StandsFor (sectors : ℕ) (files : ℕ → Option FileInfo) (pages : ℕ → ℕ → List ℕ) (image : Image) : Type 0 where
    -- it is one of such a store,
    pub good : layout.IsBad sectors image → ⊥
    -- whose journal a commit wrote,
    pub journal : layout.pages.IsBad sectors image → ⊥
    -- and says so of each file and of each of its pages.
    pub facts : (f : ℕ) → info_in image f ≡ files f
    pub same : (f k : ℕ) → IsPageOf files f k → page_in image f k ≡ pages f k

  -- the files with the pages of before, or with those of after
  abbrev pub StandsForEither : ℕ → (ℕ → Option FileInfo) → (ℕ → ℕ → List ℕ) → (ℕ → ℕ → List ℕ) → Image → Type 0
  StandsForEither sectors files before after image = StandsFor sectors files before image ⊎ StandsFor sectors files after image

  -- it stands for what the other image stands for
  abbrev pub StandsAs : ℕ → Image → Image → Type 0
  StandsAs sectors old image = (files : ℕ → Option FileInfo) (pages : ℕ → ℕ → List ℕ) → StandsFor sectors files pages old → StandsFor sectors files pages image
