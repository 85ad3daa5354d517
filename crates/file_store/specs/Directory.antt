-- The directory: 64 entries of two little-endian numbers of four bytes. The format is our own.
-- Of the first number, bit 31 says that the file is there, bit 30 that it is read-only, and bits 0 to 29 are its first
-- home page; its other home pages follow. The second is its length in bytes.
use Rattle.std.specs.Prelude.{ℕ, ◌+◌, ◌*◌, ◌^◌, ◌/◌, ◌%◌, ◌<◌, ◌≤◌, ◌≡◌, List, drop, get_or, Option, Some, None, IfSome, nat_lt, if◌then◌else◌, ◌==◌}
use Rattle.byteorder.specs.Endian.{little_number}
use Rattle.file_store.specs.declared.directory.Entry.{Entry}
use Rattle.file_store.specs.Layout.{pages_of_length, listed_files}

abbrev pub word_of : List ℕ → ℕ
word_of bytes = little_number 4 bytes

abbrev pub length_of : List ℕ → ℕ
length_of bytes = little_number 4 (drop 4 bytes)

-- what the bytes of an entry say
unfoldable pub decoded : List ℕ → Option Entry
decoded bytes = if word_of bytes / 2147483648 % 2 == 1
    then Some (record { first = word_of bytes % 1073741824; info = record { length = length_of bytes; read_only = word_of bytes / 1073741824 % 2 == 1 } })
    else None

-- both numbers of an entry are zero
pub record IsZero (bytes : List ℕ) : Type 0 where
  pub word : word_of bytes ≡ 0
  pub length : length_of bytes ≡ 0

-- the bytes of entry f, and what follows them
abbrev pub entry_bytes : List ℕ → ℕ → List ℕ
entry_bytes sector f = drop (8 * f) sector

-- the entry of file f in a directory sector
unfoldable pub entry_in : List ℕ → ℕ → Option Entry
entry_in sector f = if nat_lt f listed_files then decoded (entry_bytes sector f) else None

-- the home page behind a file's last
abbrev pub home_end : Entry → ℕ
home_end e = e.first + pages_of_length e.info.length

abbrev pub IsHomeOf : Entry → ℕ → Type 0
IsHomeOf e h = (e.first ≤ h) × (h < home_end e)

-- A directory that no store of so many home pages has.
pub data IsBadDirectory (homes : ℕ) (sector : List ℕ) : Type 0 where
  -- an entry of no file is not wholly zero
  NotZero : (f : ℕ) → f < listed_files → entry_in sector f ≡ None → (IsZero (entry_bytes sector f) → ⊥) → IsBadDirectory homes sector
  -- a file's homes do not end within the store
  Outside : (f : ℕ) (e : Entry) → entry_in sector f ≡ Some e → homes < home_end e → IsBadDirectory homes sector
  -- two files have a home page in common
  Overlap : (f g h : ℕ) (a b : Entry) → f < g → entry_in sector f ≡ Some a → entry_in sector g ≡ Some b → IsHomeOf a h → IsHomeOf b h → IsBadDirectory homes sector

-- entries whose homes lie within the store, none in two files
pub record IsSoundDirectory (homes : ℕ) (entry : ℕ → Option Entry) : Type 0 where
  pub within : (f : ℕ) (e : Entry) → entry f ≡ Some e → home_end e ≤ homes
  pub apart : (f g h : ℕ) (a b : Entry) → f < g → entry f ≡ Some a → entry g ≡ Some b → IsHomeOf a h → IsHomeOf b h → ⊥

-- the first n entries of a directory sector are none of the above
pub record AreGood (homes : ℕ) (sector : List ℕ) (n : ℕ) : Type 0 where
  pub zero : (f : ℕ) → f < n → entry_in sector f ≡ None → IsZero (entry_bytes sector f)
  pub within : (f : ℕ) (e : Entry) → f < n → entry_in sector f ≡ Some e → home_end e ≤ homes
  pub apart : (f g h : ℕ) (a b : Entry) → f < g → g < n → entry_in sector f ≡ Some a → entry_in sector g ≡ Some b → IsHomeOf a h → IsHomeOf b h → ⊥

-- these are the first entries of a directory sector
pub record AreEntries (sector : List ℕ) (entries : List (Option Entry)) (n : ℕ) : Type 0 where
  pub each : (f : ℕ) → f < n → get_or entries f None ≡ entry_in sector f

-- The entry that follows the first n of a good directory is read:
pub record IsNextOf (homes : ℕ) (sector : List ℕ) (n : ℕ) (next : Option Entry) : Type 0 where
  -- it is the sector's,
  pub entry : next ≡ entry_in sector n
  -- its length is one of four bytes,
  pub fits : IfSome next (λ e. e.info.length < 2 ^ 32)
  -- and with it the directory is good still.
  pub good : AreGood homes sector (n + 1)
