-- The directories that a store may have.
use Rattle.std.specs.Prelude.{ℕ, ◌+◌, ◌<◌, ◌≤◌, ◌≡◌, ◌⊎◌, List, length, get_or, slice_get, Option, Some, None}
use Rattle.directories.specs.declared.entry.Extent.{Extent}
use Rattle.directories.specs.declared.entry.Entry.{Entry}
use Rattle.directories.specs.declared.faults.LayoutFault.{LayoutFault}
use Rattle.directories.specs.declared.faults.LayoutFault.TheVariants.{Outside, Short, Shared, Memory}
use Rattle.directories.specs.Homes.{extents_of, homes_of, pages_of_length}

-- h is a home of an extent
pub record IsHomeIn (x : Extent) (h : ℕ) : Type 0 where
  pub low : x.first ≤ h
  pub high : h < x.first + x.count

-- two extents have a home in common
pub record ShareHome (x y : Extent) : Type 0 where
  pub home : ℕ
  pub one : IsHomeIn x home
  pub other : IsHomeIn y home

-- the entry of file f
abbrev pub entry_in : List (Option Entry) → ℕ → Option Entry
entry_in entries f = get_or entries f None

-- This is the extent at place i of file f.
pub record IsExtent (entries : List (Option Entry)) (f i : ℕ) (x : Extent) : Type 0 where
  pub entry : Entry
  pub file : entry_in entries f ≡ Some entry
  pub extent : slice_get (extents_of entry) i ≡ Some x

-- a home that no file may have: one of the directory's, or past the last of the device
abbrev pub IsOutside : ℕ → ℕ → ℕ → Type 0
IsOutside pages homes h = (h < pages) ⊎ (homes ≤ h)

-- Entries make a good directory of so many pages, on a device of so many homes:
pub record IsGoodLayout (pages homes : ℕ) (entries : List (Option Entry)) : Type 0 where
  -- each home of an extent is on the device, behind the directory,
  pub within : (f i h : ℕ) (x : Extent) → IsExtent entries f i x → IsHomeIn x h → (pages ≤ h) × (h < homes)
  -- no two extents have a home in common,
  pub apart : (f i g j : ℕ) (x y : Extent) → IsExtent entries f i x → IsExtent entries g j y → ShareHome x y → (f ≡ g) × (i ≡ j)
  -- and the extents of a file have as many homes as it has pages.
  pub enough : (f : ℕ) (e : Entry) → entry_in entries f ≡ Some e → pages_of_length e.length ≤ length (homes_of (extents_of e))

-- an extent of file f has a home that no file may have
pub record LiesOutside (pages homes : ℕ) (entries : List (Option Entry)) (f : ℕ) : Type 0 where
  pub place : ℕ
  pub extent : Extent
  pub is : IsExtent entries f place extent
  pub home : ℕ
  pub has : IsHomeIn extent home
  pub outside : IsOutside pages homes home

-- file f has more pages than homes
pub record IsShort (entries : List (Option Entry)) (f : ℕ) : Type 0 where
  pub entry : Entry
  pub file : entry_in entries f ≡ Some entry
  pub short : length (homes_of (extents_of entry)) < pages_of_length entry.length

-- an extent of file f and another one, of file g, have a home in common
pub record SharesHome (entries : List (Option Entry)) (f g : ℕ) : Type 0 where
  pub place : ℕ
  pub other_place : ℕ
  pub extent : Extent
  pub other : Extent
  pub is : IsExtent entries f place extent
  pub other_is : IsExtent entries g other_place other
  pub two : (f ≡ g) × (place ≡ other_place) → ⊥
  pub shared : ShareHome extent other

-- why entries make no good directory; where memory is short, no file by itself is bad, and no more is said of them
abbrev pub IsBadLayout : ℕ → ℕ → List (Option Entry) → LayoutFault → Type 0
IsBadLayout pages homes entries (Outside f) = LiesOutside pages homes entries f
IsBadLayout pages homes entries (Short f) = IsShort entries f
IsBadLayout pages homes entries (Shared f g) = SharesHome entries f g
IsBadLayout pages homes entries Memory = (f : ℕ) → LiesOutside pages homes entries f ⊎ IsShort entries f → ⊥

-- unless memory is short
abbrev pub IsRefusal : LayoutFault → Type 0 → Type 0
IsRefusal (Outside f) P = P
IsRefusal (Short f) P = P
IsRefusal (Shared f g) P = P
IsRefusal Memory P = Unit {0}
