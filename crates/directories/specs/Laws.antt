-- What a good directory gives the pages of files.
use Rattle.std.specs.Prelude.{ℕ, ◌<◌, ◌≤◌, ◌≡◌, List, Option, Some}
use Rattle.directories.specs.declared.entry.Entry.{Entry}
use Rattle.directories.specs.Homes.{HasHome, pages_of_length}
use Rattle.directories.specs.Layouts.{entry_in}

-- Pages have homes:
pub record GivesHomes (pages homes : ℕ) (entries : List (Option Entry)) : Type 0 where
  -- each is on the device, behind the directory,
  pub within : (f p h : ℕ) → HasHome entries f p h → (pages ≤ h) × (h < homes)
  -- no two pages have one,
  pub apart : (f p g q h : ℕ) → HasHome entries f p h → HasHome entries g q h → (f ≡ g) × (p ≡ q)
  -- and each page of a file has one.
  pub each : (f p : ℕ) (e : Entry) → entry_in entries f ≡ Some e → p < pages_of_length e.length → (h : ℕ) × HasHome entries f p h
