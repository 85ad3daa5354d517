-- Where own copies lie, and who has them: a frame and a slot of swap by one notion.
use Rattle.std.specs.Prelude.{◌≡◌, ◌≢◌, ◌⊎◌, ℕ, ◌+◌, ◌==◌, Bool, false, if◌then◌else◌, Option, Some, None}
use Rattle.vm_types.specs.Limits.{top_level}
use Rattle.vm_types.specs.Counting.{count_below}
use Rattle.sv39_walk.specs.Entry.{frame_of}
pub use Rattle.sv39_walk.specs.Entry.{is_private, is_swapped}
use Rattle.page_tables.specs.Tree.{IsPage}

-- the place of an own copy
pub data Seat : Type 0 where
  InFrame : ℕ → Seat
  InSlot : ℕ → Seat

-- where the own copy lies that an entry names
abbrev pub seat : ℕ → Option Seat
seat e = if is_private e then Some (InFrame (frame_of e)) else (if is_swapped e then Some (InSlot (frame_of e)) else None)

abbrev pub same_seat : Seat → Seat → Bool
same_seat (InFrame n) (InFrame m) = n == m
same_seat (InFrame n) (InSlot m) = false
same_seat (InSlot n) (InFrame m) = false
same_seat (InSlot n) (InSlot m) = n == m

abbrev pub is_seat : Option Seat → Seat → Bool
is_seat None y = false
is_seat (Some x) y = same_seat x y

-- how many processes have that seat at that page
unfoldable pub holders_at : (ℕ → ℕ → ℕ) → ℕ → Seat → ℕ
holders_at entries page y = count_below (λ pid. is_seat (seat (entries pid page)) y) 65

-- d where the seat is x, else nothing
abbrev pub off : Seat → ℕ → Seat → ℕ
off x d y = if same_seat x y then d else 0

-- Counts, while that of seat x is off by d: the share count of a seat is the number of entries that name it, all at one page.
module _ (mode : ℕ) where
  pub record AreCounted (entries : ℕ → ℕ → ℕ) (owned : Seat → Type 0) (count page : Seat → ℕ) (x : Seat) (d : ℕ) : Type 0 where
    pub counts : (y : Seat) → owned y → count y ≡ holders_at entries (page y) y + off x d y
    pub pages : (y : Seat) → owned y → IsPage (top_level mode) (page y)
    pub named : (pid p : ℕ) (y : Seat) → IsPage (top_level mode) p → seat (entries pid p) ≡ Some y → owned y
    pub noted : (pid p : ℕ) (y : Seat) → IsPage (top_level mode) p → seat (entries pid p) ≡ Some y → page y ≡ p

-- all but one entry is as it was
module _ (mode : ℕ) where
  abbrev pub OthersSame : (ℕ → ℕ → ℕ) → (ℕ → ℕ → ℕ) → ℕ → ℕ → Type 0
  OthersSame old new pid page = (q p : ℕ) → IsPage (top_level mode) p → (q ≢ pid) ⊎ (p ≢ page) → new q p ≡ old q p
