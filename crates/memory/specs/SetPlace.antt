-- A number put at a place of a lowest table.
use Rattle.std.specs.Prelude.{ℕ, ◌≡◌, ◌/◌, ◌%◌}
use Rattle.vm_types.specs.Limits.{top_level, table_entries}
use Rattle.frames.specs.FrameTable.{FrameTable, IsSound}
use Rattle.page_tables.specs.Tree.{IsPage, IsRoot}
use Rattle.page_tables.specs.Places.{IsTableOf}
use Rattle.page_tables.specs.Change.{KeepsFrames, SetsEntry}

-- the number stands at that place of that table now
pub record SetsInTable (mode : ℕ) (old new : FrameTable) (table index number : ℕ) : Type 0 where
  -- so the page there has it, by each tree in which the table is, and no other page has another
  pub sets : (root page : ℕ) → IsRoot (top_level mode) old root → IsPage (top_level mode) page → IsTableOf old (top_level mode) root (page / table_entries) table
      → page % table_entries ≡ index → SetsEntry old new (top_level mode) root page number
  -- and the frames are what they were, but for bytes of tables
  pub kept : KeepsFrames old new
  pub sound : IsSound new
