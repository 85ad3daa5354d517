-- The pages of the directory that changes change, and room for them.
use Rattle.std.specs.Prelude.{ℕ, ◌+◌, ◌*◌, ◌<◌, ◌≤◌, ◌≡◌, List, [], length, get_or, Option, Some, vec_capacity}
use Rattle.directories.specs.{Entries.{SaysEntry, entry_bytes}, Layouts.{entry_in}, declared.entry.Entry.{Entry}}
use Rattle.growth.specs.declared.changes.Change.{Change}
use Rattle.pool_growth.specs.Asked.{changed_pages, entries_then}
use Rattle.pool_growth.specs.declared.front.ChangeRoom.{ChangeRoom}
use Rattle.pool_store.specs.declared.directory.Directory.{Directory}

-- no file has over 30 extents
abbrev pub HaveFewExtents : List (Option Entry) → Type 0
HaveFewExtents entries = (f : ℕ) (e : Entry) → entry_in entries f ≡ Some e → e.extent_count ≤ 30

-- The bytes of page q of a directory after changes:
pub record IsPageThen (directory : Directory) (changes : List Change) (q : ℕ) (bytes : List ℕ) : Type 0 where
  pub size : length bytes ≡ 4096
  -- each entry says what the file of its number is then.
  pub says : (i : ℕ) → i < 16 → SaysEntry (entry_bytes bytes i) (entry_in (entries_then directory changes) (16 * q + i))

-- Pages are those of a directory that changes change:
pub record AreChangedPages (directory : Directory) (changes : List Change) (pages : List (List ℕ)) : Type 0 where
  -- as many,
  pub long : length pages ≡ length (changed_pages changes directory.pages)
  -- each as it is after them.
  pub each : (j : ℕ) → j < length pages → IsPageThen directory changes (get_or (changed_pages changes directory.pages) j 0) (get_or pages j [])

-- room for all pages of a directory of d pages, and for their homes and those of as many pages as a pool with maps of m blocks has slots
abbrev pub HasChangeRoom : ℕ → ℕ → ChangeRoom → Type 0
HasChangeRoom m d room = (d ≤ vec_capacity room.pages) × (d + 1008 * m ≤ vec_capacity room.homes)
