-- Where tables stand in the trees of processes.
use Rattle.std.specs.Prelude.{◌≡◌, ◌≢◌, ℕ, ◌+◌, ◌-◌, ◌%◌, ◌^◌, ◌<◌, ◌≤◌, Some}
use Rattle.vm_types.specs.Limits.{top_level, table_entries}
use Rattle.page_tables.specs.Tree.{IsPage, IsBelowRoot, IsOnWay, Way}
use Rattle.residency.specs.Picture.{Picture}
use Rattle.residency.specs.Parts.{IsMapped}
use Rattle.inspection.specs.declared.tables.TablePlace.{TablePlace}

-- Frame n has the table of that level on the way to that page from the root of that process, and the page is the first of those that have this
-- table on their way.
module _ {mode : ℕ} where
  pub record IsPlaceOf (c : Picture mode) (n : ℕ) (place : TablePlace) : Type 0 where
    pub root : ℕ
    pub lives : c.root place.pid ≡ Some root
    pub level : place.level ≤ top_level mode
    pub way : Way c.frames (top_level mode) root place.first (top_level mode - place.level) n
    pub inside : IsPage (top_level mode) place.first
    pub begins : place.first % table_entries ^ (place.level + 1) ≡ 0

-- table n is not on the way to a page
module _ {mode : ℕ} where
  abbrev pub IsOffWay : Picture mode → ℕ → ℕ → ℕ → Type 0
  IsOffWay c pid page n = (r : ℕ) → c.root pid ≡ Some r → IsOnWay c.frames (top_level mode) r page n → ⊥

-- table n is neither the root of a process nor below it on the way to a page that it has mapped
module _ {mode : ℕ} where
  pub record IsOutOf (c : Picture mode) (pid n : ℕ) : Type 0 where
    pub root : (r : ℕ) → c.root pid ≡ Some r → n ≢ r
    pub below : (r page : ℕ) → c.root pid ≡ Some r → IsMapped c pid page → IsBelowRoot c.frames (top_level mode) r page n → ⊥

-- the pages from one up to, not including, another have no table on their ways that isn't on the way to the first
module _ {mode : ℕ} where
  abbrev pub HaveOneWay : Picture mode → ℕ → ℕ → ℕ → Type 0
  HaveOneWay c pid page end = (r k n : ℕ) → c.root pid ≡ Some r → page ≤ k → k < end → IsOnWay c.frames (top_level mode) r k n → IsOnWay c.frames (top_level mode) r page n
