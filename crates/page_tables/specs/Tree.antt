-- Tables as trees. `top` is the level of a root: one less than the number of levels, 2 for Sv39 and 3 for Sv48.
use Rattle.std.specs.Prelude.{◌≡◌, ◌≢◌, ℕ, zero, suc, ◌+◌, ◌-◌, ◌<◌, ◌≤◌, ◌⊎◌, ◌^◌, true, false, ◌==◌, if◌then◌else◌}
use Rattle.vm_types.specs.Limits.{table_entries}
use Rattle.frames.specs.declared.role.Role.TheVariants.{Table}
use Rattle.frames.specs.FrameTable.{FrameTable, IsFrame, role_of}
use Rattle.sv39_walk.specs.Entry.{entry_at, frame_of, is_pointer}
use Rattle.sv39_walk.specs.Walk.{index_of}
use Rattle.page_tables.specs.Entry.{IsSoftware}

-- a page that a tree of that top level has a place for
abbrev pub IsPage : ℕ → ℕ → Type 0
IsPage top page = page < table_entries ^ (top + 1)

pub record IsTable (t : FrameTable) (n : ℕ) : Type 0 where
  pub inside : IsFrame t n
  pub role : role_of t n ≡ Table

-- entry i of table n points to frame m
pub record Points (t : FrameTable) (n i m : ℕ) : Type 0 where
  pub table : IsTable t n
  pub index : i < table_entries
  pub pointer : is_pointer (entry_at t n i) ≡ true
  pub target : frame_of (entry_at t n i) ≡ m

-- no table points to it
abbrev pub IsUnlinked : FrameTable → ℕ → Type 0
IsUnlinked t m = (n i : ℕ) → Points t n i m → ⊥

-- The tables of all trees: pointers lead to tables, at most one pointer to each, and every entry has one of the forms
-- that these calls write.
pub record IsForest (t : FrameTable) : Type 0 where
  pub onto_tables : (n i m : ℕ) → Points t n i m → IsTable t m
  pub one_way : (a i b j m : ℕ) → Points t a i m → Points t b j m → (a ≡ b) × (i ≡ j)
  pub normal : (n i : ℕ) → IsTable t n → i < table_entries → IsSoftware (entry_at t n i)

-- table n lies that many pointers below the root on the way to the page
abbrev pub Way : FrameTable → ℕ → ℕ → ℕ → ℕ → ℕ → Type 0
Way t top root page zero n = n ≡ root
Way t top root page (suc depth) n = (m : ℕ) × Way t top root page depth m × Points t m (index_of page (top - depth)) n

-- a table on the way to a page, the root among them
abbrev pub IsOnWay : FrameTable → ℕ → ℕ → ℕ → ℕ → Type 0
IsOnWay t top root page n = (depth : ℕ) × (depth ≤ top) × Way t top root page depth n

-- a table below the root on the way to a page
abbrev pub IsBelowRoot : FrameTable → ℕ → ℕ → ℕ → ℕ → Type 0
IsBelowRoot t top root page n = (depth : ℕ) × (depth < top) × Way t top root page (suc depth) n

-- where the way to a page ends, from the table n of that level on: the level, which is 0 where no table is missing, and
-- the table
unfoldable pub last_table : FrameTable → ℕ → ℕ → ℕ → ℕ × ℕ
last_table t page zero n = (0, n)
last_table t page (suc level) n =
    let e = entry_at t n (index_of page (suc level)) in
    if is_pointer e then last_table t page level (frame_of e) else (suc level, n)

-- how many tables are missing on the way to a page
unfoldable pub missing_of : FrameTable → ℕ → ℕ → ℕ → ℕ
missing_of t top root page = (last_table t page top root).0

-- The way to a page from the root of a tree of that many levels above the lowest was gone to its end: it ends
pub record EndsWay (t : FrameTable) (top root page l n m : ℕ) : Type 0 where
  -- at that level, which is how many tables are missing and one of the tree's, at most three above the lowest,
  pub level : l ≡ (last_table t page top root).0
  pub missing : l ≡ missing_of t top root page
  pub in_levels : l ≤ top
  pub few : top ≤ 3
  -- in that table,
  pub table : n ≡ (last_table t page top root).1
  pub is_table : IsTable t n
  -- which is the root, or the one that the table before it points to
  pub parent : (n ≡ root) ⊎ ((l < top) × Points t m (index_of page (l + 1)) n)

-- the entry that ends the way
unfoldable pub last_entry : FrameTable → ℕ → ℕ → ℕ → ℕ
last_entry t top root page = let last = last_table t page top root in entry_at t last.1 (index_of page last.0)

-- the number that stands for a page, 0 where a table is missing
unfoldable pub page_entry : FrameTable → ℕ → ℕ → ℕ → ℕ
page_entry t top root page = if missing_of t top root page == 0 then last_entry t top root page else 0

-- A table that begins a tree. Where a table is missing on the way to a page nothing stands in its place, and no page's
-- own entry is a pointer.
pub record IsRoot (top : ℕ) (t : FrameTable) (n : ℕ) : Type 0 where
  pub table : IsTable t n
  pub unlinked : IsUnlinked t n
  pub bare : (page : ℕ) → missing_of t top n page ≢ 0 → last_entry t top n page ≡ 0
  pub flat : (page : ℕ) → missing_of t top n page ≡ 0 → is_pointer (last_entry t top n page) ≡ false

-- a table without entries
abbrev pub IsEmptyTable : FrameTable → ℕ → Type 0
IsEmptyTable t n = (i : ℕ) → i < table_entries → entry_at t n i ≡ 0

-- a table that is in no tree and has no entries
pub record IsSpare (t : FrameTable) (n : ℕ) : Type 0 where
  pub table : IsTable t n
  pub unlinked : IsUnlinked t n
  pub empty : IsEmptyTable t n
