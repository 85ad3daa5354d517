-- Files that get another length.
use Rattle.std.specs.Prelude.{ℕ, ◌-◌, ◌<◌, ◌≤◌, ◌≡◌, List, length, take, slice_get, Option, Some}
use Rattle.directories.specs.declared.entry.Extent.{Extent}
use Rattle.directories.specs.declared.entry.Entry.{Entry}
use Rattle.directories.specs.Homes.{extents_of, homes_of, home_of_page, pages_of_length}
use Rattle.growth.specs.declared.changes.Change.{Change}
use Rattle.growth.specs.declared.room.Homes.{Homes}
use Rattle.growth.specs.Room.{file_homes, IsRoom}

-- how many homes the first n of these extents have
abbrev pub homes_in_front : List Extent → ℕ → ℕ
homes_in_front xs n = length (homes_of (take n xs))

-- The first n of these extents are needed for so many pages:
pub record AreNeeded (xs : List Extent) (pages n : ℕ) : Type 0 where
  -- n of them there are,
  pub inside : n ≤ length xs
  -- they have a home for each page, unless they are all,
  pub enough : n < length xs → pages ≤ homes_in_front xs n
  -- and the extents before each of them have fewer.
  pub needed : (i : ℕ) → i < n → homes_in_front xs i < pages

-- An entry is cut to a length:
pub record IsCut (e : Entry) (bytes : ℕ) (cut : Entry) : Type 0 where
  -- but for its length it says the same of the file,
  pub read_only : cut.read_only ≡ e.read_only
  pub size : cut.length ≡ bytes
  -- and its extents, 30 at most, are those in front that its pages need.
  pub few : cut.extent_count ≤ 30
  pub front : extents_of cut ≡ take (length (extents_of cut)) (extents_of e)
  pub needed : AreNeeded (extents_of e) (pages_of_length bytes) (length (extents_of cut))

-- A file gets a length:
pub record IsResized (before : List (Option Entry)) (changes : List Change) (e : Entry) (bytes : ℕ) (room : Homes) (now : Entry) : Type 0 where
  -- it has that, and may be written as before;
  pub size : now.length ≡ bytes
  pub read_only : now.read_only ≡ e.read_only
  -- its extents, 30 at most, have a home for each page,
  pub few : now.extent_count ≤ 30
  pub enough : pages_of_length bytes ≤ file_homes now
  -- and those before each of them have fewer;
  pub needed : (n : ℕ) → n < length (extents_of now) → homes_in_front (extents_of now) n < pages_of_length bytes
  -- they are some of its own from the front on, or all of these
  pub front : take (length (extents_of e)) (extents_of now) ≡ take (length (extents_of now)) (extents_of e)
  -- and one more, which is room for the entry.
  pub added : (i : ℕ) (x : Extent) → length (extents_of e) ≤ i → slice_get (extents_of now) i ≡ Some x
      → (i ≡ length (extents_of e)) × IsRoom before changes e room (pages_of_length bytes - file_homes e) x

-- each page that a file has afterwards keeps the home that it had
abbrev pub StaysHome : Entry → Entry → Type 0
StaysHome e now = (k h : ℕ) → k < pages_of_length now.length → home_of_page e k ≡ Some h → home_of_page now k ≡ Some h
