-- What a table says of a page, and the number that stands for it. The forms of an entry without V are our own.
use Rattle.std.specs.Prelude.{◌≡◌, ℕ, ◌+◌, ◌*◌, ◌<◌, ◌^◌, ◌⊎◌, true, if◌then◌else◌}
use Rattle.sv39_walk.specs.Entry.{is_valid, is_leaf, is_pointer}
use Rattle.page_tables.specs.declared.forms.Entry.{Entry}
use Rattle.page_tables.specs.declared.forms.Entry.TheVariants.{None, Leaf, Swapped, Parked}

-- A swapped page has the number 1 in bits 1 to 3 and its slot in bits 10 to 53, a parked one 2 and its frame, and bit 8
-- where the frame is private. All other bits are zero.
abbrev pub number_of : Entry → ℕ
number_of None = 0
number_of (Leaf e) = e.0
number_of (Swapped slot) = slot.0 * 1024 + 2
number_of (Parked frame private) = frame.0 * 1024 + (if private then 260 else 4)

-- a leaf has V, and R or X: without them it would be a pointer
abbrev pub IsEntry : Entry → Type 0
IsEntry None = Unit {0}
IsEntry (Leaf e) = (is_valid e.0 ≡ true) × (is_leaf e.0 ≡ true)
IsEntry (Swapped slot) = slot.0 < 2 ^ 32
IsEntry (Parked frame private) = frame.0 < 2 ^ 32

-- a number that stands for what a table says of a page
pub record IsPageEntry (number : ℕ) : Type 0 where
  pub entry : Entry
  pub form : IsEntry entry
  pub is : number ≡ number_of entry

-- all that stands in a table
abbrev pub IsSoftware : ℕ → Type 0
IsSoftware number = (is_pointer number ≡ true) ⊎ IsPageEntry number
