use Rattle.inspection.{proofs.Names.{top_level, ℕ, ◌<◌, IsPage, picture_of, IsOver}, specs.Frames.{IsAtOrAfter}}
use Rattle.residency.specs.declared.leaves.Change.TheVariants as Kinds
use Rattle.inspection.proofs.frame_views.first_mapper.Given as goal

-- no process before this one has such a page
abbrev pub invariant-loop-number : goal.invariant-loop-number
invariant-loop-number g l = (p k : ℕ) → p < l.number → IsAtOrAfter l.pid l.page p k → IsPage (top_level g.M.Levels.mode) k → IsOver (picture_of l.core) Kinds.Forget l.n.0 p k → ⊥
