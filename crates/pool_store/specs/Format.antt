-- What a new store of layout 4 is made of.
use Rattle.std.specs.Prelude.{ℕ, zero, suc, ◌+◌, ◌*◌, ◌-◌, ◌^◌, ◌<◌, ◌≤◌, ◌≡◌, ◌⊎◌, List, [], ◌∷◌, ◌++◌, length, map, replicate, slice_get, Option, Some}
use Rattle.std.specs.{List.{range_with_len}, Option.{option_map}}
use Rattle.disk_model.specs.{Sectors.{part_of}, Stop.{Image}}
use Rattle.pool_journal.specs.{Clearing.{IsEmptyPool, IsHeadOfPool}, Pools.{pool_home, pool_home_count}}
use Rattle.directories.specs.{Entries.{SaysEntry, entry_bytes}, Kinds.{IsKind}}
use Rattle.directories.specs.declared.entry.{Entry.{Entry}, Extent.{Extent}}
use Rattle.file_store.specs.{Format.{IsMarkSector, IsKindSector, first_home, files_given, page_given, total_pages}, Layout.{bytes_inside, padded_page, pages_of_length}, Standing.{IsBadLayout}}
use Rattle.file_store.specs.declared.sources.FileSource.{FileSource}
use Rattle.pool_store.specs.Files.{info_in, page_in}
use Rattle.pool_store.specs.Pools.{IsBadPool, entry_standing, files_in_pool, pool_mark}

-- the pages of a new store's directory, in the first homes
abbrev pub new_pages : ℕ
new_pages = 4

-- the files that they have room for
abbrev pub new_files : ℕ
new_files = 64

-- a sector of the homes from first on, and before end
abbrev pub IsHomeSector : ℕ → ℕ → ℕ → ℕ → Type 0
IsHomeSector m first end k = (pool_home m first ≤ k) × (k < pool_home m end)

-- all of a new store of so many pages but kind and mark: gate and first block of the first map, directory and pages
abbrev pub IsInnerSector : ℕ → ℕ → ℕ → Type 0
IsInnerSector m pages k = IsHeadOfPool m k ⊎ IsHomeSector m 0 (new_pages + pages) k

-- all but the mark
abbrev pub IsUnmarkedPoolSector : ℕ → ℕ → ℕ → Type 0
IsUnmarkedPoolSector m pages k = IsKindSector k ⊎ IsInnerSector m pages k

-- and all of it
abbrev pub IsPoolStoreSector : ℕ → ℕ → ℕ → Type 0
IsPoolStoreSector m pages k = IsMarkSector k ⊎ IsUnmarkedPoolSector m pages k

-- sector i of home h itself, where no slot is given to it
abbrev pub home_part : ℕ → Image → ℕ → ℕ → List ℕ
home_part m image h i = image (pool_home m h + i)

-- Home h holds a page of which so many bytes lie inside its file, and zeros past them: the given page, if one is given.
pub record HomeHoldsCut (m h inside : ℕ) (given : Option (List ℕ)) (image : Image) : Type 0 where
  pub page : List ℕ
  pub zeros : padded_page inside page ≡ page
  pub holds : (i : ℕ) → i < 8 → home_part m image h i ≡ part_of page i
  pub is : (told : List ℕ) → given ≡ Some told → page ≡ told

-- what counts as no extent
abbrev pub no_extent : Extent
no_extent = record { first = 0; count = 0 }

-- the extents of a new file of so many pages, whose homes follow one another: one, or none of an empty file
unfoldable pub extents_made : ℕ → ℕ → List Extent
extents_made first zero = []
extents_made first (suc n) = record { first = first; count = suc n } ∷ []

-- these, and behind them none
unfoldable pub extents_room : ℕ → ℕ → List Extent
extents_room first pages = extents_made first pages ++ replicate (30 - length (extents_made first pages)) no_extent

module _ {R : Type 0} where
  -- the entry of a file whose homes begin at this one
  abbrev pub entry_made : ℕ → FileSource R → Entry
  entry_made first source = record {
    read_only = source.read_only;
    length = source.length;
    extent_count = length (extents_made first (pages_of_length source.length));
    extents = extents_room first (pages_of_length source.length);
  }

  -- the directory's entry of file f: the homes of the files before it come first, and before them the directory
  abbrev pub entry_given : List (FileSource R) → ℕ → Option Entry
  entry_given sources f = option_map (entry_made (new_pages + first_home sources f)) (slice_get sources f)

  -- and those of all files that the directory has room for
  abbrev pub entries_given : List (FileSource R) → List (Option Entry)
  entries_given sources = map (entry_given sources) (range_with_len 0 new_files)

  -- the lengths of the first n files are of four bytes
  abbrev pub AreShort : List (FileSource R) → ℕ → Type 0
  AreShort sources n = (f : ℕ) (e : Entry) → f < n → entry_given sources f ≡ Some e → e.length < 2 ^ 32

  -- A page of the directory is made:
  pub record IsDirectoryPage (sources : List (FileSource R)) (q : ℕ) (page : List ℕ) : Type 0 where
    -- it is a page,
    pub size : length page ≡ 4096
    -- it says what each of its 16 files is,
    pub says : (i : ℕ) → i < 16 → SaysEntry (entry_bytes page i) (entry_given sources (16 * q + i))
    -- and these are no longer than they may be.
    pub short : (i : ℕ) (e : Entry) → i < 16 → entry_given sources (16 * q + i) ≡ Some e → e.length < 2 ^ 32

  -- The homes hold the first q pages of the directory.
  pub record HomesHoldDirectory (m : ℕ) (sources : List (FileSource R)) (q : ℕ) (image : Image) : Type 0 where
    pub says : (f : ℕ) → f < 16 * q → SaysEntry (entry_standing (home_part m image) f) (entry_given sources f)
    pub short : AreShort sources (16 * q)

  -- The homes from first on hold the first n pages of the source: the pages that it tells, where it does, and zeros past its end.
  abbrev pub HomesHoldSource : ℕ → (R → Option (List ℕ)) → FileSource R → ℕ → ℕ → Image → Type 0
  HomesHoldSource m remaining source first n image = (k : ℕ) → k < n → HomeHoldsCut m (first + k) (bytes_inside source.length k) (page_given remaining source k) image

  -- The homes hold the first n of the sources' files.
  abbrev pub HomesHoldFiles : ℕ → (R → Option (List ℕ)) → List (FileSource R) → ℕ → Image → Type 0
  HomesHoldFiles m remaining sources n image = (f : ℕ) (source : FileSource R) → f < n → slice_get sources f ≡ Some source
      → HomesHoldSource m remaining source (new_pages + first_home sources f) (pages_of_length source.length) image

  -- No store with maps of m blocks on so many sectors holds these files.
  pub data IsTooLargeFor (m sectors : ℕ) (sources : List (FileSource R)) : Type 0 where
    TooManyFiles : new_files < length sources → IsTooLargeFor m sectors sources
    TooFewSectors : sectors < pool_home m new_pages → IsTooLargeFor m sectors sources
    TooManyPages : pool_home_count m sectors < new_pages + total_pages sources → IsTooLargeFor m sectors sources

  -- The image has all of the sources' store but kind and mark, byte for byte:
  pub record IsInnerPoolOf (m : ℕ) (remaining : R → Option (List ℕ)) (sources : List (FileSource R)) (image : Image) : Type 0 where
    -- an empty pool,
    pub empty : IsEmptyPool m image
    -- the directory in the first homes,
    pub directory : HomesHoldDirectory m sources new_pages image
    -- and behind it the files, one after the other in the order of the sources.
    pub files : HomesHoldFiles m remaining sources (length sources) image

  -- It has all but the mark.
  pub record IsUnmarkedPoolOf (m : ℕ) (remaining : R → Option (List ℕ)) (sources : List (FileSource R)) (image : Image) : Type 0 where
    pub kind : IsKind m new_pages (image 1)
    pub inner : IsInnerPoolOf m remaining sources image
    pub open inner use *

  -- The image is a store of the sources' files on a device of so many sectors:
  pub record IsPoolStoreOf (m : ℕ) (remaining : R → Option (List ℕ)) (sectors : ℕ) (sources : List (FileSource R)) (image : Image) : Type 0 where
    -- one of layout 4,
    pub good : IsBadPool m new_pages (pool_home_count m sectors) sectors image → ⊥
    -- with their facts,
    pub facts : (f : ℕ) → info_in (files_in_pool m new_pages (pool_home_count m sectors)) image f ≡ files_given sources f
    -- and, where they tell them, with their bytes;
    pub pages : (f k : ℕ) (source : FileSource R) (page : List ℕ) → slice_get sources f ≡ Some source → 4096 * k < source.length
        → page_given remaining source k ≡ Some page → page_in (files_in_pool m new_pages (pool_home_count m sectors)) image f k ≡ page
    -- byte for byte the kind, an empty pool, the directory, and the homes one after the other in the order of the sources.
    pub made : IsUnmarkedPoolOf m remaining sources image

  -- An image that a stop may leave:
  pub record IsPoolOrNone (m : ℕ) (remaining : R → Option (List ℕ)) (sectors : ℕ) (sources : List (FileSource R)) (image : Image) : Type 0 where
    -- with the mark it is such a store,
    pub whole : image 0 ≡ pool_mark → IsPoolStoreOf m remaining sectors sources image
    -- and none of layouts 2 and 3, whatever a torn mark looks like.
    pub older : IsBadLayout sectors image

  -- An image with kind and mark is such a store.
  abbrev pub IsPoolIfHeaded : ℕ → (R → Option (List ℕ)) → ℕ → List (FileSource R) → Image → Type 0
  IsPoolIfHeaded m remaining sectors sources image = IsKind m new_pages (image 1) → image 0 ≡ pool_mark → IsPoolStoreOf m remaining sectors sources image
