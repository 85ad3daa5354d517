-- What a new store is made of.
use Rattle.std.specs.Prelude.{ℕ, ◌+◌, ◌*◌, ◌%◌, ◌<◌, ◌≤◌, ◌≡◌, ◌⊎◌, List, [], ◌∷◌, take, drop, length, slice_get, Option, Some, None, IsSome}
use Rattle.std.specs.Option.{option_map}
use Rattle.vm_types.specs.declared.file.FileInfo.{FileInfo}
use Rattle.disk_model.specs.Stop.{Image}
use Rattle.sync_journal.specs.Gate.{closed_sector}
use Rattle.sync_journal.specs.Layout.{gate_sector, first_home_sector, home_count, home_sector}
use Rattle.disk_model.specs.Sectors.{part_of}
use Rattle.file_store.specs.declared.directory.Entry.{Entry}
use Rattle.file_store.specs.declared.sources.FileSource.{FileSource}
use Rattle.file_store.specs.Layout.{mark, IsMark, pages_of_length, bytes_inside, padded_page, listed_files}
use Rattle.file_store.specs.Directory.{entry_in, entry_bytes, IsZero}
use Rattle.file_store.specs.Standing.{IsBadLayout, IsBadJournal, file_info, standing_page}

-- page k of a file of so many of these bytes, which is zeros past their end
abbrev pub page_told : ℕ → ℕ → Option (List ℕ) → Option (List ℕ)
page_told length k told = option_map (λ bytes. padded_page (bytes_inside length k) (drop (4096 * k) bytes)) told

-- the sectors from n on
abbrev pub IsFrom : ℕ → ℕ → Type 0
IsFrom n k = n ≤ k

-- sector 0, where the mark stands
abbrev pub IsMarkSector : ℕ → Type 0
IsMarkSector k = k ≡ 0

-- sector 1, where the directory stands, and of layouts 3 and 4 the kind
abbrev pub IsKindSector : ℕ → Type 0
IsKindSector k = k ≡ 1

-- directory and gate
abbrev pub IsLayoutSector : ℕ → Type 0
IsLayoutSector k = (k ≡ 1) ⊎ (k ≡ gate_sector)

-- a sector of the home pages from first on, and before end
abbrev pub IsHomesBetween : ℕ → ℕ → ℕ → Type 0
IsHomesBetween first end k = (home_sector first ≤ k) × (k < home_sector end)

-- all of a new store of so many pages but the mark
abbrev pub IsUnmarkedSector : ℕ → ℕ → Type 0
IsUnmarkedSector pages k = IsLayoutSector k ⊎ IsHomesBetween 0 pages k

-- and all of it
abbrev pub IsStoreSector : ℕ → ℕ → Type 0
IsStoreSector pages k = IsMarkSector k ⊎ IsUnmarkedSector pages k

-- Directory and a gate of zeros.
pub record HasHead (sector : List ℕ) (image : Image) : Type 0 where
  pub directory : image 1 ≡ sector
  pub gate : image gate_sector ≡ closed_sector

-- home page h holds this page
abbrev pub HoldsPage : ℕ → List ℕ → Image → Type 0
HoldsPage h page image = (i : ℕ) → i < 8 → image (home_sector h + i) ≡ part_of page i

-- Home page h holds a page of which so many bytes lie inside its file, and zeros past them: the given page, if one is given.
pub record HoldsCut (h inside : ℕ) (given : Option (List ℕ)) (image : Image) : Type 0 where
  pub page : List ℕ
  pub zeros : padded_page inside page ≡ page
  pub holds : HoldsPage h page image
  pub is : (told : List ℕ) → given ≡ Some told → page ≡ told

module _ {R : Type 0} where
  abbrev pub info_of : FileSource R → FileInfo
  info_of source = record { length = source.length; read_only = source.read_only }

  -- file f is the one of source f
  abbrev pub files_given : List (FileSource R) → ℕ → Option FileInfo
  files_given sources f = option_map info_of (slice_get sources f)

  -- how many home pages these files have
  unfoldable pub total_pages : List (FileSource R) → ℕ
  total_pages [] = 0
  total_pages (source ∷ sources) = pages_of_length source.length + total_pages sources

  -- No store on so many sectors holds these files.
  pub data IsTooLarge (sectors : ℕ) (sources : List (FileSource R)) : Type 0 where
    TooManyFiles : listed_files < length sources → IsTooLarge sectors sources
    TooFewSectors : sectors < first_home_sector → IsTooLarge sectors sources
    TooManyPages : home_count sectors < total_pages sources → IsTooLarge sectors sources

  -- the bytes that a source tells: none, and so zeros, where there is no reader
  abbrev pub told_by : (R → Option (List ℕ)) → Option R → Option (List ℕ)
  told_by remaining None = Some []
  told_by remaining (Some reader) = remaining reader

  -- the bytes that a source's reader tells, where there is a reader that tells them
  abbrev pub reader_tells : (R → Option (List ℕ)) → Option R → Option (List ℕ)
  reader_tells remaining None = None
  reader_tells remaining (Some reader) = remaining reader

  -- The first n of the sources have as many bytes as they are long, where there is a reader that tells them.
  abbrev pub AreWhole : (R → Option (List ℕ)) → List (FileSource R) → ℕ → Type 0
  AreWhole remaining sources n = (f : ℕ) (source : FileSource R) (told : List ℕ) → f < n → slice_get sources f ≡ Some source
      → reader_tells remaining source.bytes ≡ Some told → source.length ≤ length told

  -- one of the sources has bytes that a reader gives
  abbrev pub HasReader : List (FileSource R) → Type 0
  HasReader sources = (f : ℕ) × (source : FileSource R) × (slice_get sources f ≡ Some source) × IsSome source.bytes × (0 < source.length)

  -- page k of a source, where it tells its bytes
  abbrev pub page_given : (R → Option (List ℕ)) → FileSource R → ℕ → Option (List ℕ)
  page_given remaining source k = page_told source.length k (told_by remaining source.bytes)

  -- the first home of file f: the homes of the files before it come first
  abbrev pub first_home : List (FileSource R) → ℕ → ℕ
  first_home sources f = total_pages (take f sources)

  -- the directory's entry of file f; an empty file has no home, and its first may be one too large for 30 bits
  abbrev pub entry_given : List (FileSource R) → ℕ → Option Entry
  entry_given sources f = option_map (λ source. record { first = first_home sources f % 1073741824; info = info_of source }) (slice_get sources f)

  -- the directory sector of these files
  pub record IsDirectoryOf (sources : List (FileSource R)) (sector : List ℕ) : Type 0 where
    pub entries : (f : ℕ) → entry_in sector f ≡ entry_given sources f
    pub rest : (f : ℕ) → f < listed_files → length sources ≤ f → IsZero (entry_bytes sector f)

  -- The homes from first on hold the first n pages of the source: the pages that it tells, where it does, and zeros past
  -- its end.
  abbrev pub HoldsSourcePages : (R → Option (List ℕ)) → FileSource R → ℕ → ℕ → Image → Type 0
  HoldsSourcePages remaining source first n image = (k : ℕ) → k < n → HoldsCut (first + k) (bytes_inside source.length k) (page_given remaining source k) image

  -- The homes hold the first n of the sources' files.
  abbrev pub HoldsFiles : (R → Option (List ℕ)) → List (FileSource R) → ℕ → Image → Type 0
  HoldsFiles remaining sources n image = (f : ℕ) (source : FileSource R) → f < n → slice_get sources f ≡ Some source
      → HoldsSourcePages remaining source (first_home sources f) (pages_of_length source.length) image

  -- The image has all of the sources' store but the mark.
  pub record IsUnmarkedStoreOf (remaining : R → Option (List ℕ)) (sources : List (FileSource R)) (image : Image) : Type 0 where
    pub directory : IsDirectoryOf sources (image 1)
    pub gate : image gate_sector ≡ closed_sector
    pub files : HoldsFiles remaining sources (length sources) image

  -- The image is a store of the sources' files: with their facts and, where they tell them, their bytes.
  pub record IsStoreOf (remaining : R → Option (List ℕ)) (sectors : ℕ) (sources : List (FileSource R)) (image : Image) : Type 0 where
    pub layout : IsBadLayout sectors image → ⊥
    pub journal : IsBadJournal sectors image → ⊥
    pub facts : (f : ℕ) → file_info image f ≡ files_given sources f
    pub pages : (f k : ℕ) (source : FileSource R) (page : List ℕ) → slice_get sources f ≡ Some source → 4096 * k < source.length
        → page_given remaining source k ≡ Some page → standing_page image f k ≡ page
    -- byte for byte: the directory, a gate of zeros, and the homes one after the other in the order of the sources
    pub made : IsUnmarkedStoreOf remaining sources image

  -- An image that a stop may leave:
  pub record IsStoreIfMarked (remaining : R → Option (List ℕ)) (sectors : ℕ) (sources : List (FileSource R)) (image : Image) : Type 0 where
    -- with its mark it is such a store,
    pub store : image 0 ≡ mark → IsStoreOf remaining sectors sources image
    -- and with the mark of any layout, as which a torn one may read, it has all the rest of the store.
    pub made : IsMark (image 0) → IsUnmarkedStoreOf remaining sources image

  -- The bytes of page k that a source's reader gave, in a page of zeros:
  pub record IsPageRead (remaining : R → Option (List ℕ)) (old new : FileSource R) (k : ℕ) (given : List ℕ) : Type 0 where
    -- past the file's end there are zeros,
    pub zeros : padded_page (bytes_inside old.length k) given ≡ given
    -- before it what the source told, where it tells its bytes, and those are told no more,
    pub page : (told : List ℕ) → told_by remaining old.bytes ≡ Some told → given ≡ padded_page (bytes_inside old.length k) told
    pub rest : (told : List ℕ) → told_by remaining old.bytes ≡ Some told → told_by remaining new.bytes ≡ Some (drop (bytes_inside old.length k) told)
    -- and a reader told enough of them.
    pub tells : (told : List ℕ) → reader_tells remaining old.bytes ≡ Some told
        → (bytes_inside old.length k ≤ length told) × (reader_tells remaining new.bytes ≡ Some (drop (bytes_inside old.length k) told))
