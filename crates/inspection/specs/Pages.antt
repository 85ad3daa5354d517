-- The pages of a process that have an entry, and pages of files and objects.
use Rattle.std.specs.Prelude.{◌≡◌, ◌≢◌, ℕ, ◌<◌, ◌≤◌}
use Rattle.vm_types.specs.Limits.{top_level}
use Rattle.page_tables.specs.Tree.{IsPage}
use Rattle.residency.specs.Picture.{Picture, entry}
use Rattle.vm_types.specs.declared.object.PageKey.{PageKey}
use Rattle.inspection.specs.declared.pages.PageEntry.{PageEntry}
use Rattle.inspection.specs.declared.places.PageView.{PageView}

-- The first page of a process from a page on that has an entry, and that entry.
module _ {mode : ℕ} where
  pub record IsNextEntry (c : Picture mode) (pid low : ℕ) (found : PageEntry) : Type 0 where
    pub from : low ≤ found.page
    pub number : found.entry.0 ≡ entry c pid found.page
    pub some : found.entry.0 ≢ 0
    pub none_before : (k : ℕ) → low ≤ k → k < found.page → entry c pid k ≡ 0

-- no page of a process from a page on has an entry
module _ {mode : ℕ} where
  abbrev pub HasNoEntryFrom : Picture mode → ℕ → ℕ → Type 0
  HasNoEntryFrom c pid low = (k : ℕ) → low ≤ k → IsPage (top_level mode) k → entry c pid k ≡ 0

-- Where a page of a file or an object lies, and whether it is touched.
module _ {mode : ℕ} where
  pub record IsPageView (c : Picture mode) (page : PageKey) (view : PageView) : Type 0 where
    pub place : view.place ≡ c.place page
    pub touched : view.is_touched ≡ c.touched page
