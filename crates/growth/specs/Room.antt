-- Room for a file that grows.
use Rattle.std.specs.Prelude.{ℕ, ◌+◌, ◌-◌, ◌<◌, ◌≤◌, ◌≡◌, ◌⊎◌, List, [], ◌∷◌, ◌++◌, length, take, slice_get, Option, Some, max}
use Rattle.directories.specs.declared.entry.Extent.{Extent}
use Rattle.directories.specs.declared.entry.Entry.{Entry}
use Rattle.directories.specs.Homes.{extents_of, homes_of}
use Rattle.directories.specs.Layouts.{ShareHome, IsExtent}
use Rattle.growth.specs.declared.changes.Change.{Change}
use Rattle.growth.specs.declared.room.Homes.{Homes}
use Rattle.growth.specs.Parts.{extents_of_file}

-- An extent is in use:
pub data IsUsedExtent (before : List (Option Entry)) (changes : List Change) (e : Entry) (y : Extent) : Type 0 where
  -- a file had it before,
  OfBefore : (g j : ℕ) → IsExtent before g j y → IsUsedExtent before changes e y
  -- a change gives it to one,
  OfChange : (i j : ℕ) (c : Change) → slice_get changes i ≡ Some c → slice_get (extents_of_file c.entry) j ≡ Some y → IsUsedExtent before changes e y
  -- or this entry has it.
  OfEntry : (j : ℕ) → slice_get (extents_of e) j ≡ Some y → IsUsedExtent before changes e y

-- no extent that is in use has a home of x
abbrev pub IsUnused : List (Option Entry) → List Change → Entry → Extent → Type 0
IsUnused before changes e x = (y : Extent) → IsUsedExtent before changes e y → ShareHome x y → ⊥

-- this one is, and has
pub record IsBlockedBy (before : List (Option Entry)) (changes : List Change) (e : Entry) (x y : Extent) : Type 0 where
  pub used : IsUsedExtent before changes e y
  pub shared : ShareHome x y

-- A run is free:
pub record IsFreeRun (before : List (Option Entry)) (changes : List Change) (e : Entry) (room : Homes) (x : Extent) : Type 0 where
  -- its homes are in the room,
  pub low : room.first ≤ x.first
  pub high : x.first + x.count ≤ room.end
  -- and none is in use.
  pub unused : IsUnused before changes e x

-- wherever in the room n homes in a row begin, one of them is in use
abbrev pub HasNoRun : List (Option Entry) → List Change → Entry → Homes → ℕ → Type 0
HasNoRun before changes e room n = (first : ℕ) → room.first ≤ first → first + n ≤ room.end → (y : Extent) × IsBlockedBy before changes e (record { first = first; count = n }) y

-- a free run of n homes
abbrev pub IsRunOf : List (Option Entry) → List Change → Entry → Homes → ℕ → Extent → Type 0
IsRunOf before changes e room n x = (x.count ≡ n) × IsFreeRun before changes e room x

-- an extent is one of these,
abbrev pub IsOf : List Extent → Extent → Type 0
IsOf xs y = (i : ℕ) × (slice_get xs i ≡ Some y)

-- one of a file's,
abbrev pub IsOfFile : List (Option Entry) → Extent → Type 0
IsOfFile entries y = (g : ℕ) × (j : ℕ) × IsExtent entries g j y

-- or one that a change gives a file
abbrev pub IsOfChange : List Change → Extent → Type 0
IsOfChange changes y = (i : ℕ) × (c : Change) × (slice_get changes i ≡ Some c) × IsOf (extents_of_file c.entry) y

-- A pass over extents moves the first home of a run of n:
pub record PassesOver (Is : Extent → Type 0) (n first behind : ℕ) : Type 0 where
  -- on, or not at all;
  pub rises : first ≤ behind
  -- a run that begins at a home that it has passed is blocked by one of the extents,
  pub blocked : (at : ℕ) → first ≤ at → at < behind → (y : Extent) × Is y × ShareHome (record { first = at; count = n }) y
  -- and where it did not move it, none of them has a home of the run.
  pub free : behind ≡ first → (y : Extent) → Is y → ShareHome (record { first = first; count = n }) y → ⊥

-- how many homes a file has
abbrev pub file_homes : Entry → ℕ
file_homes e = length (homes_of (extents_of e))

-- how many homes an entry is to get that lacks n: as many as it has, or 64, or n, whichever is most
abbrev pub wanted : Entry → ℕ → ℕ
wanted e n = max (max (file_homes e) 64) n

-- A free run is room for an entry that lacks n homes:
pub record IsRoom (before : List (Option Entry)) (changes : List Change) (e : Entry) (room : Homes) (n : ℕ) (x : Extent) : Type 0 where
  -- it is as large as wanted, or of n where no run as large is free,
  pub size : (x.count ≡ wanted e n) ⊎ ((x.count ≡ n) × HasNoRun before changes e room (wanted e n))
  -- and free.
  pub free : IsFreeRun before changes e room x

-- an entry with an extent behind its own
pub record IsWider (e : Entry) (x : Extent) (wider : Entry) : Type 0 where
  pub read_only : wider.read_only ≡ e.read_only
  pub bytes : wider.length ≡ e.length
  pub count : wider.extent_count ≡ length (extents_of e) + 1
  pub extents : extents_of wider ≡ extents_of e ++ x ∷ []

-- An entry is made wider, to at least so many homes:
pub record GivesRoom (before : List (Option Entry)) (changes : List Change) (e : Entry) (count : ℕ) (room : Homes) (wider : Entry) : Type 0 where
  -- it says the same of the file but for its homes,
  pub read_only : wider.read_only ≡ e.read_only
  pub bytes : wider.length ≡ e.length
  -- and nothing else where it has enough of them;
  pub same : count ≤ file_homes e → wider ≡ e
  -- there are as many,
  pub enough : count ≤ file_homes wider
  -- first in the extents that the file has,
  pub front : take (length (extents_of e)) (extents_of wider) ≡ extents_of e
  -- then in one more at most, which is room for the entry;
  pub one : length (extents_of wider) ≤ length (extents_of e) + 1
  pub added : (x : Extent) → slice_get (extents_of wider) (length (extents_of e)) ≡ Some x → IsRoom before changes e room (count - file_homes e) x
  -- and it has 30 extents at most if the entry had.
  pub few : e.extent_count ≤ 30 → wider.extent_count ≤ 30

-- an entry has 30 extents, or all runs of as many homes as it lacks are blocked
abbrev pub HasNoRoom : List (Option Entry) → List Change → Entry → ℕ → Homes → Type 0
HasNoRoom before changes e count room = (count ≤ file_homes e → ⊥) × ((length (extents_of e) ≡ 30) ⊎ HasNoRun before changes e room (count - file_homes e))
