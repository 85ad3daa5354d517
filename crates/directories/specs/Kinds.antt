-- The kind: sector 1 of a store whose pages stay in a pool. The format is our own.
use Rattle.std.specs.Prelude.{ℕ, zero, suc, ◌≡◌, ◌≢◌, ◌≤◌, ◌<◌, ◌^◌, ◌/◌, ◌%◌, List, [], ◌∷◌, ◌++◌, drop}
use Rattle.byteorder.specs.Endian.{little_bytes, little_number}
use Rattle.directories.specs.declared.kind.Kind.{Kind}
use Rattle.directories.specs.declared.kind.KindFault.{KindFault}
use Rattle.directories.specs.declared.kind.KindFault.TheVariants.{NotStamped, MapBlocks, DirectoryPages}

-- a word, n times over
abbrev pub repeated : ℕ → List ℕ → List ℕ
repeated zero word = []
repeated (suc n) word = word ++ repeated n word

-- the bytes `FAMSYNC4`, and `FAMSYNC3` of the layout before
abbrev pub stamp : List ℕ
stamp = 70 ∷ 65 ∷ 77 ∷ 83 ∷ 89 ∷ 78 ∷ 67 ∷ 52 ∷ []

abbrev pub old_stamp : List ℕ
old_stamp = 70 ∷ 65 ∷ 77 ∷ 83 ∷ 89 ∷ 78 ∷ 67 ∷ 51 ∷ []

-- the stamp, the blocks of a map and the pages of the directory as numbers of four bytes, low byte first, and the stamp 62 times
unfoldable pub kind_sector : ℕ → ℕ → List ℕ
kind_sector m d = stamp ++ (little_bytes 4 m ++ (little_bytes 4 d ++ repeated 62 stamp))

-- a map has 1 to 2,048 blocks, a directory 1 to 256 pages
abbrev pub IsMapSize : ℕ → Type 0
IsMapSize m = (1 ≤ m) × (m ≤ 2048)

abbrev pub IsDirectorySize : ℕ → Type 0
IsDirectorySize d = (1 ≤ d) × (d ≤ 256)

-- A sector is the kind of a store with maps of m blocks and a directory of d pages:
pub record IsKind (m d : ℕ) (sector : List ℕ) : Type 0 where
  -- it has these bytes,
  pub bytes : sector ≡ kind_sector m d
  -- and the numbers are in their ranges.
  pub maps : IsMapSize m
  pub pages : IsDirectorySize d

abbrev pub SaysKind : List ℕ → Kind → Type 0
SaysKind sector kind = IsKind kind.map_blocks kind.directory_pages sector

abbrev pub IsSized : Kind → Type 0
IsSized kind = IsMapSize kind.map_blocks × IsDirectorySize kind.directory_pages

-- why a sector is no kind: no two numbers of four bytes make it; or the first is out of its range; or the second is
abbrev pub IsNoKind : List ℕ → KindFault → Type 0
IsNoKind sector NotStamped = (m d : ℕ) → m < 2 ^ 32 → d < 2 ^ 32 → sector ≢ kind_sector m d
IsNoKind sector MapBlocks = (m d : ℕ) × (sector ≡ kind_sector m d) × (m < 2 ^ 32) × (IsMapSize m → ⊥)
IsNoKind sector DirectoryPages = (m d : ℕ) × (sector ≡ kind_sector m d) × IsMapSize m × (d < 2 ^ 32) × (IsDirectorySize d → ⊥)

-- Sector 1 of a store of an older layout:
pub data IsOlder (sector : List ℕ) : Type 0 where
  -- the older stamp 64 times,
  Stamped : sector ≡ repeated 64 old_stamp → IsOlder sector
  -- or a directory, of which the first entry is there, as bit 31 of its first number says,
  Present : little_number 4 sector / 2147483648 % 2 ≡ 1 → IsOlder sector
  -- or not, and then both its numbers are zero.
  Absent : little_number 4 sector ≡ 0 → little_number 4 (drop 4 sector) ≡ 0 → IsOlder sector
