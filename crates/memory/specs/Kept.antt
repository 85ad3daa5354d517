-- What a buffer of translations keeps of the trees of memory.
use Rattle.std.specs.Prelude.{ℕ, ◌≡◌, ◌<◌, true, Some}
use Rattle.vm_types.specs.Limits.{top_level, user_end}
use Rattle.frames.specs.FrameTable.{FrameTable, frame_count}
use Rattle.sv39_walk.specs.Entry.{is_valid, frame_of, entry_at}
use Rattle.sv39_walk.specs.Walk.{index_of}
use Rattle.page_tables.specs.Tree.{IsTable, IsUnlinked, Way}
use Rattle.memory.specs.declared.buffer.TranslationBuffer.{TranslationBuffer}
use Rattle.memory.specs.Lines.{line_at}

-- From the root, to which nothing points, the whole way to the page leads to that leaf, which names a frame.
pub record IsLeafOf (mode : ℕ) (t : FrameTable) (root page leaf : ℕ) : Type 0 where
  pub lowest : ℕ
  pub inside : page < user_end mode
  pub unlinked : IsUnlinked t root
  pub way : Way t (top_level mode) root page (top_level mode) lowest
  pub table : IsTable t lowest
  pub here : entry_at t lowest (index_of page 0) ≡ leaf
  pub valid : is_valid leaf ≡ true
  pub target : frame_of leaf < frame_count t

-- each line is the leaf of its page under its root
pub record LinesAreLeaves (mode : ℕ) (t : FrameTable) (b : TranslationBuffer) : Type 0 where
  pub leaves : (root page leaf : ℕ) → line_at b root page ≡ Some leaf → IsLeafOf mode t root page leaf
