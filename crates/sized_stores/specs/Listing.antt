-- The pages of a commit of lengths.
use Rattle.std.specs.Prelude.{ℕ, ◌+◌, ◌*◌, ◌<◌, ◌≤◌, ◌≡◌, ◌⊎◌, Bool, true, false, List, ◌++◌, length, get_or, slice_get, nat_le, Option, Some, IsTrue, IsFalse, vec_capacity}
use Rattle.vm_types.specs.{Limits.{longest_file}, declared.file.{FileInfo.{FileInfo}, FilePage.{FilePage}}}
use Rattle.pool_growth.specs.Files.{file_page_count, StandsInList}
use Rattle.pool_store.specs.Store.{info_by}
use Rattle.pool_store.specs.declared.directory.Directory.{Directory}
use Rattle.sized_stores.specs.Room.{HasListRoom}
use Rattle.sized_stores.specs.Store.{length_of, shortest_of, with_length}
use Rattle.sized_stores.specs.declared.{room.{PageList.{PageList}, SizeRoom.{SizeRoom}}, sizes.Size.{Size}}

-- no length at all
abbrev pub no_size : Size
no_size = record { length = 0; shortest = 0; resized = false }

-- a page is a new one: its file doesn't have it durably
abbrev pub is_new_in : (ℕ → Option FileInfo) → FilePage → Bool
is_new_in files p = nat_le (file_page_count (files p.file)) p.page

-- Pages of a list, and their places in it:
pub record PicksPages (files : ℕ → Option FileInfo) (new : Bool) (list pages : List FilePage) (places : List ℕ) : Type 0 where
  pub long : length pages ≡ length places
  -- they stand in their order,
  pub rise : (i j : ℕ) → i < j → j < length places → get_or places i 0 < get_or places j 0
  -- each is the page of that place, and a new one, or none, as is asked for,
  pub each : (i : ℕ) (p : FilePage) → slice_get pages i ≡ Some p → (slice_get list (get_or places i 0) ≡ Some p) × (is_new_in files p ≡ new)
  -- and each such one of the list is there.
  pub all : (i : ℕ) (p : FilePage) → slice_get list i ≡ Some p → is_new_in files p ≡ new → (j : ℕ) × (j < length places) × (get_or places j 0 ≡ i)

-- the list has more such pages than that
abbrev pub AreTooManyPicked : (ℕ → Option FileInfo) → Bool → List FilePage → ℕ → Type 0
AreTooManyPicked files new list limit = (pages : List FilePage) × (places : List ℕ) × (limit < length pages) × (length pages ≡ length places)
    × ((i j : ℕ) → i < j → j < length places → get_or places i 0 < get_or places j 0)
    × ((i : ℕ) (p : FilePage) → slice_get pages i ≡ Some p → (slice_get list (get_or places i 0) ≡ Some p) × (is_new_in files p ≡ new))

-- Page k of a file is zeros since it was cut off:
pub record IsZeroPage (files : ℕ → Option FileInfo) (sizes : List Size) (list : List FilePage) (f k : ℕ) : Type 0 where
  -- the file has been so short that it hadn't it,
  pub lost : shortest_of (files f) (slice_get sizes f) ≤ 4096 * k
  -- had it durably, and has it now,
  pub had : 4096 * k < length_of (files f)
  pub has : 4096 * k < length_of (with_length (files f) (slice_get sizes f))
  -- and it is none of the list.
  pub unlisted : StandsInList list f k → ⊥

-- no page stands in a list twice
abbrev pub AreDistinct : List FilePage → Type 0
AreDistinct list = (i j : ℕ) (p : FilePage) → i < j → slice_get list i ≡ Some p → slice_get list j ≡ Some p → ⊥

-- Pages are listed behind others:
pub record ListsZeros (directory : Directory) (sizes : List Size) (file : ℕ) (list : List FilePage) (limit : ℕ) (old new : List FilePage) (result : Bool) : Type 0 where
  pub zeros : List FilePage
  pub behind : new ≡ old ++ zeros
  pub few : length new ≤ limit
  -- each is one of this file that is zeros, and none stands there twice;
  pub each : (i : ℕ) (p : FilePage) → slice_get zeros i ≡ Some p → (p.file ≡ file) × IsZeroPage (info_by directory) sizes list p.file p.page
  pub distinct : AreDistinct zeros
  -- these are all of them, or there is one more than the limit.
  pub all : IsTrue result → (k : ℕ) → IsZeroPage (info_by directory) sizes list file k → StandsInList zeros file k
  pub more : IsFalse result → (length new ≡ limit) × ((k : ℕ) × IsZeroPage (info_by directory) sizes list file k × (StandsInList zeros file k → ⊥))

-- one of these files has this page, and it is zeros since
abbrev pub IsZeroIn : (ℕ → Option FileInfo) → List Size → List ℕ → List FilePage → ℕ → ℕ → Type 0
IsZeroIn files sizes list_of pages f k = ((i : ℕ) × (slice_get list_of i ≡ Some f)) × IsZeroPage files sizes pages f k

-- The pages of a commit are listed:
pub record ListsPages (directory : Directory) (sizes : List Size) (files : List ℕ) (list : List FilePage) (limit : ℕ) (fresh kept : PageList) : Type 0 where
  -- new ones by themselves;
  pub new : PicksPages (info_by directory) true list fresh.pages.items fresh.places.items
  -- of the others those of the list first,
  pub front : List FilePage
  pub zeros : List FilePage
  pub is : kept.pages.items ≡ front ++ zeros
  pub old : PicksPages (info_by directory) false list front kept.places.items
  -- and then all that are zeros, none of them twice;
  pub each : (i : ℕ) (p : FilePage) → slice_get zeros i ≡ Some p → IsZeroIn (info_by directory) sizes files list p.file p.page
  pub distinct : AreDistinct zeros
  pub all : (f k : ℕ) → IsZeroIn (info_by directory) sizes files list f k → StandsInList zeros f k
  -- and all of these are no more than the limit.
  pub few : length fresh.pages.items + length kept.pages.items ≤ limit

-- There are more pages than that:
pub record AreTooMany (files : ℕ → Option FileInfo) (sizes : List Size) (list_of : List ℕ) (list : List FilePage) (limit : ℕ) : Type 0 where
  pub pages : List FilePage
  pub many : limit < length pages
  -- none of these stands there twice,
  pub distinct : AreDistinct pages
  -- and each is one of the list, or zeros since.
  pub each : (i : ℕ) (p : FilePage) → slice_get pages i ≡ Some p → StandsInList list p.file p.page ⊎ IsZeroIn files sizes list_of list p.file p.page

-- these files rise, and each has its place and a length
pub record AreSized (sizes : List Size) (files : List ℕ) : Type 0 where
  pub places : (i : ℕ) → i < length files → get_or files i 0 < length sizes
  pub rising : (i j : ℕ) → i < j → j < length files → get_or files i 0 < get_or files j 0
  pub short : (i : ℕ) → i < length files → ((get_or sizes (get_or files i 0) no_size).length ≤ longest_file) × ((get_or sizes (get_or files i 0) no_size).shortest ≤ longest_file)

-- room for so many new pages, and for so many others
abbrev pub HasPageRoom : ℕ → SizeRoom → Type 0
HasPageRoom limit room = HasListRoom limit room.fresh × HasListRoom limit room.kept

-- the room is as large as it was
abbrev pub KeepsListRoom : PageList → PageList → Type 0
KeepsListRoom old new = (vec_capacity new.pages ≡ vec_capacity old.pages) × (vec_capacity new.places ≡ vec_capacity old.places)

pub record KeepsRoom (old new : SizeRoom) : Type 0 where
  pub fresh : KeepsListRoom old.fresh new.fresh
  pub kept : KeepsListRoom old.kept new.kept
  -- with what else is listed.
  pub sizes : new.sizes ≡ old.sizes
  pub changes : new.changes ≡ old.changes
  pub slots : new.slots ≡ old.slots
