-- What one commit may change of the directory.
use Rattle.std.specs.Prelude.{ℕ, ◌<◌, ◌≤◌, ◌⊎◌, ◌==◌, List, [], ◌∷◌, length, map, Option, Some, None, IfSome, if◌then◌else◌}
use Rattle.std.specs.List.{range_with_len, All, AllPairs}
use Rattle.directories.specs.declared.entry.Extent.{Extent}
use Rattle.directories.specs.declared.entry.Entry.{Entry}
use Rattle.directories.specs.Homes.{HasHome}
use Rattle.directories.specs.Layouts.{IsHomeIn, ShareHome, IsExtent, entry_in}
use Rattle.growth.specs.declared.changes.Change.{Change}

-- the first of these changes that is of file f
abbrev pub change_of : List Change → ℕ → Option Change
change_of [] f = None
change_of (c ∷ cs) f = if c.file == f then Some c else change_of cs f

-- the entry that a change gives, or where there is none what it was
abbrev pub entry_then : Option Change → Option Entry → Option Entry
entry_then None was = was
entry_then (Some c) was = c.entry

-- the entry of file f after these changes
abbrev pub entry_after : List (Option Entry) → List Change → ℕ → Option Entry
entry_after entries changes f = entry_then (change_of changes f) (entry_in entries f)

-- all entries after them
unfoldable pub entries_after : List (Option Entry) → List Change → List (Option Entry)
entries_after entries changes = map (λ f. entry_after entries changes f) (range_with_len 0 (length entries))

-- These are changes of a directory:
pub record AreChanges (entries : List (Option Entry)) (changes : List Change) : Type 0 where
  -- their files rise,
  pub rising : AllPairs (λ c d. c.file < d.file) changes
  -- each has its place in the directory,
  pub inside : All (λ c. c.file < length entries) changes
  -- and none gets over 30 extents.
  pub few : All (λ c. IfSome c.entry (λ e. e.extent_count ≤ 30)) changes

-- extent i of file f is one that the file had: it, and each before it, is from before, at its place
abbrev pub IsOld : List (Option Entry) → List (Option Entry) → ℕ → ℕ → Type 0
IsOld before after f i = (j : ℕ) (x : Extent) → j ≤ i → IsExtent after f j x → IsExtent before f j x

-- New extents have no home that an extent had before: a home that one commit gives back may be given out by the next, and not by the same.
pub record TakesFreeHomes (before after : List (Option Entry)) : Type 0 where
  pub free : (f i g j : ℕ) (x y : Extent) → IsExtent after f i x → (IsOld before after f i → ⊥) → IsExtent before g j y → ShareHome x y → ⊥

-- no extent has home h
abbrev pub IsFreeHome : List (Option Entry) → ℕ → Type 0
IsFreeHome entries h = (g j : ℕ) (y : Extent) → IsExtent entries g j y → IsHomeIn y h → ⊥

-- each page has the home that it had, or one that was free
abbrev pub PagesKeepHomes : List (Option Entry) → List (Option Entry) → Type 0
PagesKeepHomes before after = (f p h : ℕ) → HasHome after f p h → HasHome before f p h ⊎ IsFreeHome before h
