-- Entries of the directory. The format is our own: 256 bytes each, 16 to a page of 4,096; every number has its low byte first.
--   0 to 3                 flags: 0 where there is no file, and all other bytes are zeros then; 1 a file; 3 one that may only be read
--   4 to 7                 the number of extents, 0 to 30
--   8 to 15                the length in bytes
--   16 + 8 i to 23 + 8 i   extent i, 0 to 29: the first home and the number of homes, four bytes each
use Rattle.std.specs.Prelude.{ℕ, ◌+◌, ◌*◌, ◌<◌, ◌≤◌, ◌≡◌, ◌≢◌, ◌⊎◌, ◌==◌, List, length, take, drop, get_or, map, replicate, Option, Some, None, if◌then◌else◌}
use Rattle.std.specs.List.{range_with_len}
use Rattle.byteorder.specs.Endian.{little_number}
use Rattle.directories.specs.declared.entry.Extent.{Extent}
use Rattle.directories.specs.declared.entry.Entry.{Entry}
use Rattle.directories.specs.declared.entry.EntryFault.{EntryFault}
use Rattle.directories.specs.declared.entry.EntryFault.TheVariants.{Flags, NotZero, Extents}

-- the number of four bytes from a place on
abbrev pub number_at : ℕ → List ℕ → ℕ
number_at at bytes = little_number 4 (drop at bytes)

-- the bytes of the entry at a place of a page
abbrev pub entry_bytes : List ℕ → ℕ → List ℕ
entry_bytes page place = take 256 (drop (256 * place) page)

abbrev pub extent_at : ℕ → List ℕ → Extent
extent_at i bytes = record { first = number_at (16 + 8 * i) bytes; count = number_at (16 + 8 * i + 4) bytes }

-- the first n extents of these bytes are those of the list
abbrev pub HoldsExtents : List ℕ → List Extent → ℕ → Type 0
HoldsExtents bytes extents n = (i : ℕ) → i < n → extent_at i bytes ≡ get_or extents i (record { first = 0; count = 0 })

abbrev pub flags_of : Entry → ℕ
flags_of e = if e.read_only then 3 else 1

-- Bytes of an entry say of a file:
pub record SaysFile (bytes : List ℕ) (e : Entry) : Type 0 where
  -- that it is there, and whether it may only be read,
  pub flags : number_at 0 bytes ≡ flags_of e
  -- how many extents it has, 30 at most,
  pub count : number_at 4 bytes ≡ e.extent_count
  pub few : e.extent_count ≤ 30
  -- its extents, with what stands behind them 30 in all,
  pub extents : HoldsExtents bytes e.extents 30
  pub room : length e.extents ≡ 30
  -- and its length.
  pub length : little_number 8 (drop 8 bytes) ≡ e.length

-- bytes of an entry say of a file what this is, or that there is none
abbrev pub SaysEntry : List ℕ → Option Entry → Type 0
SaysEntry bytes None = bytes ≡ replicate 256 0
SaysEntry bytes (Some e) = SaysFile bytes e

-- the 30 extents of these bytes, in order
abbrev pub extents_in : List ℕ → List Extent
extents_in bytes = map (λ i. extent_at i bytes) (range_with_len 0 30)

-- the file of these bytes: each part as it stands in them
abbrev pub file_said : List ℕ → Entry
file_said bytes =
    record { read_only = number_at 0 bytes == 3; length = little_number 8 (drop 8 bytes); extent_count = number_at 4 bytes; extents = extents_in bytes }

-- what bytes of an entry say: no file where the flags are 0, the file of these bytes where they are not; bytes that are no entry are read alike
unfoldable pub entry_said : List ℕ → Option Entry
entry_said bytes = if number_at 0 bytes == 0 then None else Some (file_said bytes)

-- flags are a file's
abbrev pub AreFileFlags : ℕ → Type 0
AreFileFlags n = (n ≡ 1) ⊎ (n ≡ 3)

-- why bytes are no entry: flags that there are not; no file, and not all zeros; a file of too many extents: one reason, if any
abbrev pub IsNoEntry : List ℕ → EntryFault → Type 0
IsNoEntry bytes Flags = (number_at 0 bytes ≢ 0) × (number_at 0 bytes ≢ 1) × (number_at 0 bytes ≢ 3)
IsNoEntry bytes NotZero = (number_at 0 bytes ≡ 0) × (bytes ≢ replicate 256 0)
IsNoEntry bytes Extents = AreFileFlags (number_at 0 bytes) × (30 < number_at 4 bytes)

-- bytes in front of a place are the same
abbrev pub SameBelow : ℕ → List ℕ → List ℕ → Type 0
SameBelow n old new = (j : ℕ) → j < n → get_or new j 0 ≡ get_or old j 0

-- and all but so many from a place on
abbrev pub SameBeside : ℕ → ℕ → List ℕ → List ℕ → Type 0
SameBeside at width old new = (j : ℕ) → (j < at) ⊎ (at + width ≤ j) → get_or new j 0 ≡ get_or old j 0
