-- What becomes of memory when one frame is lent.
use Rattle.std.specs.Prelude.{ℕ, List}
use Rattle.std.specs.Borrow.{Lends, MutBor, Fml, RattleType, Array, u8}
use Rattle.memory.specs.contracts.memory.Memory.{the_row}
use Rattle.vm_types.specs.declared.mode.Levels.{Ghosts}
use Rattle.frames.specs.FrameTable.{FrameTable, with_bytes}

-- memory of the mode ends with frame n as it was last left behind the loan, and all else as it was
abbrev pub LendsMemoryFrame : (M : RattleType) → Ghosts M.Denot → MutBor FrameTable → ℕ → MutBor (List ℕ) → Fml
LendsMemoryFrame M m t n loan = Lends (the_row M m) (Array u8 4096) t loan (with_bytes t.now n)
