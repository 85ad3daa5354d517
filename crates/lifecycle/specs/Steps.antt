-- What the steps of a fork need and leave.
use Rattle.std.specs.Prelude.{◌≢◌, ℕ, ◌<◌, ◌≤◌, ◌⊎◌, None}
use Rattle.vm_types.specs.Limits.{top_level}
use Rattle.page_tables.specs.Tree.{IsPage, IsTable}
use Rattle.residency.specs.Seats.{seat}
use Rattle.residency.specs.Picture.{Picture, entry}
use Rattle.fault.specs.Changes.{IsTableOnWay}
use Rattle.residency.specs.Ways.{IsWhole}

-- the process has a copy of its own of a page, in a frame or in a slot
module _ {mode : ℕ} where
  abbrev pub HasCopy : Picture mode → ℕ → ℕ → Type 0
  HasCopy c pid page = IsPage (top_level mode) page × (seat (entry c pid page) ≢ None)

-- no table is missing for the child on the way to a page of which the parent has a copy of its own
module _ {mode : ℕ} where
  abbrev pub HasTablesForCopies : Picture mode → ℕ → ℕ → Type 0
  HasTablesForCopies c parent child = (page : ℕ) → HasCopy c parent page → IsWhole c child page

-- the same, of the pages from one up to, not including, another
module _ {mode : ℕ} where
  abbrev pub HasTablesFrom : Picture mode → ℕ → ℕ → ℕ → ℕ → Type 0
  HasTablesFrom c parent child low high = (page : ℕ) → low ≤ page → page < high → HasCopy c parent page → IsWhole c child page

-- a table is missing for the child on the way to a page of which the parent has a copy of its own
module _ {mode : ℕ} where
  abbrev pub LacksTableForCopy : Picture mode → ℕ → ℕ → Type 0
  LacksTableForCopy c parent child = (page : ℕ) × HasCopy c parent page × (IsWhole c child page → ⊥)

-- Each frame that came to be a table is one of the child's, on the way to a page of which the parent has a copy of its own.
module _ {mode : ℕ} where
  abbrev pub LinksCopies : Picture mode → Picture mode → ℕ → ℕ → Type 0
  LinksCopies old new parent child = (n : ℕ) → IsTable new.frames n
      → IsTable old.frames n ⊎ ((page : ℕ) × HasCopy old parent page × IsTableOnWay new child page n)

-- A step goes on at a later place, or at the end.
pub record AdvancesTo (from end next : ℕ) : Type 0 where
  pub further : from < next
  pub within : next ≤ end
