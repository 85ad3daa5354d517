-- What is found of a directory file by file, and of all its extents.
use Rattle.std.specs.Prelude.{ℕ, ◌<◌, ◌≤◌, ◌≡◌, List, length, slice_get, Option, Some}
use Rattle.directories.specs.declared.entry.Extent.{Extent}
use Rattle.directories.specs.declared.entry.Entry.{Entry}
use Rattle.directories.specs.declared.faults.LayoutFault.{LayoutFault}
use Rattle.directories.specs.declared.faults.LayoutFault.TheVariants.{Outside, Short, Shared, Memory}
use Rattle.directories.specs.Homes.{extents_of, homes_of, pages_of_length}
use Rattle.directories.specs.Layouts.{IsHomeIn, IsOutside, ShareHome, IsExtent, SharesHome, entry_in}

-- each home of an extent is on the device, behind the directory
abbrev pub LiesWithin : ℕ → ℕ → Extent → Type 0
LiesWithin pages homes x = (h : ℕ) → IsHomeIn x h → (pages ≤ h) × (h < homes)

-- one is not
pub record HasOutside (pages homes : ℕ) (x : Extent) : Type 0 where
  pub home : ℕ
  pub has : IsHomeIn x home
  pub outside : IsOutside pages homes home

-- a file by itself is as a good directory has it
pub record IsFileGood (pages homes : ℕ) (e : Entry) : Type 0 where
  pub within : (i : ℕ) (x : Extent) → slice_get (extents_of e) i ≡ Some x → LiesWithin pages homes x
  pub enough : pages_of_length e.length ≤ length (homes_of (extents_of e))

-- the first n are
abbrev pub AreFilesGood : ℕ → ℕ → List (Option Entry) → ℕ → Type 0
AreFilesGood pages homes entries n = (f : ℕ) (e : Entry) → f < n → entry_in entries f ≡ Some e → IsFileGood pages homes e

-- an extent of a file has a home that no file may have
pub record HasOutsideExtent (pages homes : ℕ) (e : Entry) : Type 0 where
  pub place : ℕ
  pub extent : Extent
  pub is : slice_get (extents_of e) place ≡ Some extent
  pub has : HasOutside pages homes extent

-- why a file by itself is not: the fault names it
abbrev pub IsFileBad : ℕ → ℕ → ℕ → Entry → LayoutFault → Type 0
IsFileBad pages homes f e (Outside g) = (g ≡ f) × HasOutsideExtent pages homes e
IsFileBad pages homes f e (Short g) = (g ≡ f) × (length (homes_of (extents_of e)) < pages_of_length e.length)
IsFileBad pages homes f e (Shared g k) = ⊥
IsFileBad pages homes f e Memory = ⊥

-- no two extents have a home in common
abbrev pub HaveApart : List (Option Entry) → Type 0
HaveApart entries = (f i g j : ℕ) (x y : Extent) → IsExtent entries f i x → IsExtent entries g j y → ShareHome x y → (f ≡ g) × (i ≡ j)

-- two have
abbrev pub HaveShared : List (Option Entry) → LayoutFault → Type 0
HaveShared entries (Outside f) = ⊥
HaveShared entries (Short f) = ⊥
HaveShared entries (Shared f g) = SharesHome entries f g
HaveShared entries Memory = Unit {0}
