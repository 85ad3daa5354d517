-- What is found of changes one by one, and of each new extent.
use Rattle.std.specs.Prelude.{ℕ, ◌+◌, ◌<◌, ◌≡◌, ◌==◌, ◌&&◌, List, [], ◌∷◌, length, drop, slice_get, Option, Some, None, if◌then◌else◌}
use Rattle.directories.specs.declared.entry.Extent.{Extent}
use Rattle.directories.specs.declared.entry.Entry.{Entry}
use Rattle.directories.specs.Homes.{extents_of, homes_of, pages_of_length}
use Rattle.directories.specs.Layouts.{ShareHome, IsExtent, entry_in}
use Rattle.directories.specs.Checks.{IsFileGood, HasOutsideExtent}
use Rattle.growth.specs.declared.changes.Change.{Change}
use Rattle.growth.specs.declared.searching.Held.{Held}
use Rattle.growth.specs.declared.faults.ChangeFault.{ChangeFault}
use Rattle.growth.specs.declared.faults.ChangeFault.TheVariants.{Outside, Short, Shared, Taken}

-- the extents of a file, if there is one
abbrev pub extents_of_file : Option Entry → List Extent
extents_of_file None = []
extents_of_file (Some e) = extents_of e

-- how many extents in front of two lists are the same
abbrev pub kept_count : List Extent → List Extent → ℕ
kept_count [] ys = 0
kept_count (x ∷ xs) [] = 0
kept_count (x ∷ xs) (y ∷ ys) = if (x.first == y.first) && (x.count == y.count) then kept_count xs ys + 1 else 0

-- the new extents of a change: those behind the file's own from before
unfoldable pub new_extents : List (Option Entry) → Change → List Extent
new_extents before c = drop (kept_count (extents_of_file (entry_in before c.file)) (extents_of_file c.entry)) (extents_of_file c.entry)

-- none of these extents has a home of x
abbrev pub IsApartFrom : List Extent → Extent → Type 0
IsApartFrom xs x = (i : ℕ) (y : Extent) → slice_get xs i ≡ Some y → ShareHome x y → ⊥

-- this one of them has
pub record IsMet (xs : List Extent) (x y : Extent) : Type 0 where
  pub place : ℕ
  pub is : slice_get xs place ≡ Some y
  pub shared : ShareHome x y

-- no extent of these files has a home of x
abbrev pub HaveNone : List (Option Entry) → Extent → Type 0
HaveNone entries x = (g j : ℕ) (y : Extent) → IsExtent entries g j y → ShareHome x y → ⊥

-- this one has
pub record HasHomeOf (entries : List (Option Entry)) (x : Extent) (held : Held) : Type 0 where
  pub place : ℕ
  pub is : IsExtent entries held.file place held.extent
  pub shared : ShareHome x held.extent

-- no new extent of these changes has a home of x
abbrev pub TakeNone : List (Option Entry) → List Change → Extent → Type 0
TakeNone before changes x = (m : ℕ) (c : Change) → slice_get changes m ≡ Some c → IsApartFrom (new_extents before c) x

-- one has, of a change of file g
pub record TakesHomeOf (before : List (Option Entry)) (changes : List Change) (x : Extent) (g : ℕ) : Type 0 where
  pub place : ℕ
  pub change : Change
  pub is : slice_get changes place ≡ Some change
  pub file : change.file ≡ g
  pub other : Extent
  pub met : IsMet (new_extents before change) x other

-- New extent k of a change takes what is free:
pub record IsExtentGood (before : List (Option Entry)) (c : Change) (behind : List Change) (k : ℕ) (x : Extent) : Type 0 where
  -- no home of it is one of before,
  pub free : HaveNone before x
  -- none is of a new one behind it,
  pub own : IsApartFrom (drop (k + 1) (new_extents before c)) x
  -- and none of those of later changes.
  pub later : TakeNone before behind x

-- the first n new extents of a change do
abbrev pub AreExtentsGood : List (Option Entry) → Change → List Change → ℕ → Type 0
AreExtentsGood before c behind n = (k : ℕ) (x : Extent) → k < n → slice_get (new_extents before c) k ≡ Some x → IsExtentGood before c behind k x

-- A change is good:
pub record IsChangeGood (pages homes : ℕ) (before : List (Option Entry)) (c : Change) (behind : List Change) : Type 0 where
  -- its file by itself is,
  pub file : (e : Entry) → c.entry ≡ Some e → IsFileGood pages homes e
  -- and its new extents take what is free.
  pub extents : AreExtentsGood before c behind (length (new_extents before c))

-- the new extents of change i take what is free
abbrev pub HasGoodExtents : List (Option Entry) → List Change → ℕ → Type 0
HasGoodExtents before changes i = (c : Change) → slice_get changes i ≡ Some c → AreExtentsGood before c (drop (i + 1) changes) (length (new_extents before c))

-- change i is good
abbrev pub IsChecked : ℕ → ℕ → List (Option Entry) → List Change → ℕ → Type 0
IsChecked pages homes before changes i = (c : Change) → slice_get changes i ≡ Some c → IsChangeGood pages homes before c (drop (i + 1) changes)

-- the first n are
abbrev pub AreChecked : ℕ → ℕ → List (Option Entry) → List Change → ℕ → Type 0
AreChecked pages homes before changes n = (i : ℕ) (c : Change) → i < n → slice_get changes i ≡ Some c → IsChangeGood pages homes before c (drop (i + 1) changes)

-- why a file by itself is bad: the fault names it
abbrev pub IsFileRefused : ℕ → ℕ → ℕ → Entry → ChangeFault → Type 0
IsFileRefused pages homes f e (Outside g) = (g ≡ f) × HasOutsideExtent pages homes e
IsFileRefused pages homes f e (Short g) = (g ≡ f) × (length (homes_of (extents_of e)) < pages_of_length e.length)
IsFileRefused pages homes f e (Shared g k) = ⊥
IsFileRefused pages homes f e (Taken g k) = ⊥
