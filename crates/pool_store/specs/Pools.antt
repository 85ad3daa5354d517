-- Stores whose pages stay in a pool: layout 4. The format is our own. Sector 0 is the mark and sector 1 the kind, which says how large maps and directory
-- are; the first homes are the directory, whose pages are committed as all others are.
use Rattle.std.specs.Prelude.{ℕ, ◌*◌, ◌/◌, ◌%◌, ◌<◌, ◌≤◌, ◌≡◌, ◌≢◌, Bool, List, length, Option, Some, None, nat_lt, if◌then◌else◌}
use Rattle.vm_types.specs.Limits.{file_limit, longest_file}
use Rattle.disk_model.specs.{Sectors.{joined}, Stop.{Image}}
use Rattle.pool_journal.specs.Pools.{pool, pool_home, pool_standing}
use Rattle.directories.specs.Entries.{SaysEntry, entry_bytes, entry_said}
use Rattle.directories.specs.Kinds.{IsKind}
use Rattle.directories.specs.Layouts.{IsGoodLayout, entry_in}
use Rattle.directories.specs.declared.entry.Entry.{Entry}
pub use Rattle.file_store.specs.Layout.{pool_mark}
use Rattle.pool_store.specs.Files.{StoreLayout}

-- the bytes of the directory's entry of file f, where this stands for the homes: 16 to a page
abbrev pub entry_standing : (ℕ → ℕ → List ℕ) → ℕ → List ℕ
entry_standing stands f = entry_bytes (joined (stands (f / 16)) 8) (f % 16)

-- what a directory of d pages says of file f
abbrev pub entry_by : ℕ → (ℕ → ℕ → List ℕ) → ℕ → Option Entry
entry_by d stands f = if nat_lt f (16 * d) then entry_said (entry_standing stands f) else None

-- the files' numbers are below 4,096, their lengths 2 ^ 42 at most, and their extents 30
abbrev pub HaveBounds : List (Option Entry) → Type 0
HaveBounds entries = (f : ℕ) (e : Entry) → entry_in entries f ≡ Some e → (f < file_limit) × (e.length ≤ longest_file) × (e.extent_count ≤ 30)

-- Entries that a store with a directory of d pages may have on a device of n homes:
pub record AreEntries (d n : ℕ) (entries : List (Option Entry)) : Type 0 where
  -- there are 16 for each page,
  pub size : length entries ≡ 16 * d
  -- the files' numbers are below 4,096, their lengths 2 ^ 42 at most, and their extents 30,
  pub bounded : HaveBounds entries
  -- and the extents lie on the device behind the directory, no two with a home in common, and are enough.
  pub good : IsGoodLayout d n entries

-- entries are what the directory says, where this stands for the homes
abbrev pub AreSaid : ℕ → (ℕ → ℕ → List ℕ) → List (Option Entry) → Type 0
AreSaid d stands entries = (f : ℕ) → f < 16 * d → SaysEntry (entry_standing stands f) (entry_in entries f)

-- Entries are a directory:
pub record IsDirectory (d n : ℕ) (stands : ℕ → ℕ → List ℕ) (entries : List (Option Entry)) : Type 0 where
  -- a store may have them,
  pub may : AreEntries d n entries
  pub open may use *
  -- and so it says.
  pub said : AreSaid d stands entries

-- An image that is not of a store with maps of m blocks and a directory of d pages, on a device of so many sectors and n homes: the mark is missing, or
-- it is another kind, or the directory does not lie on the device, or no entries are what it says.
pub data IsBadPool (m d n sectors : ℕ) (image : Image) : Type 0 where
  Unmarked : image 0 ≢ pool_mark → IsBadPool m d n sectors image
  OtherKind : (IsKind m d (image 1) → ⊥) → IsBadPool m d n sectors image
  TooSmall : sectors < pool_home m d → IsBadPool m d n sectors image
  NoDirectory : ((entries : List (Option Entry)) → IsDirectory d n (pool_standing m n image) entries → ⊥) → IsBadPool m d n sectors image

-- The layout of stores with maps of m blocks and a directory of d pages, on a device of n homes.
abbrev pub files_in_pool : ℕ → ℕ → ℕ → StoreLayout (Bool × (Bool → ℕ → ℕ))
files_in_pool m d n = record {
  pages = pool m n;
  entry = λ image. entry_by d (pool_standing m n image);
  IsBad = IsBadPool m d n;
}
