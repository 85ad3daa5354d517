use Rattle.inspection.{proofs.Names.{top_level, ℕ, ◌<◌, IsPage, picture_of}, specs.{Frames.{IsAtOrAfter}, Slots.{IsInSlot}}}
use Rattle.inspection.proofs.slots.next_swapped.Given as goal

-- no process before this one has such a page
abbrev pub invariant-loop-number : goal.invariant-loop-number
invariant-loop-number g l = (p k : ℕ) → p < l.number → IsAtOrAfter l.pid l.page p k → IsPage (top_level g.M.Levels.mode) k → IsInSlot (picture_of l.core) l.n.0 p k → ⊥
