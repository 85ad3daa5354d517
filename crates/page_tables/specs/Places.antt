-- The lowest tables: where the entries of pages stand.
use Rattle.std.specs.Prelude.{◌≡◌, ℕ, ◌/◌}
use Rattle.vm_types.specs.Limits.{table_entries}
use Rattle.frames.specs.FrameTable.{FrameTable}
use Rattle.page_tables.specs.Tree.{IsTable, last_table, missing_of}

-- in the tree of that root, at that top level, the entries of the 512 pages of that row stand in table n
pub record IsTableOf (t : FrameTable) (top root row n : ℕ) : Type 0 where
  pub table : IsTable t n
  pub whole : (page : ℕ) → page / table_entries ≡ row → missing_of t top root page ≡ 0
  pub last : (page : ℕ) → page / table_entries ≡ row → (last_table t page top root).1 ≡ n
