use Rattle.residency.{proofs.Names.{top_level, ℕ, ◌<◌, IsPage}, specs.{Leaves.{IsOver}, Picture.{picture_of}}}
use Rattle.residency.proofs.leaves.has_leaf.Given as goal

abbrev pub invariant-loop-pid : goal.invariant-loop-pid
invariant-loop-pid g l = record { clear : (q k : ℕ) → q < l.pid → IsPage (top_level g.M.Levels.mode) k → IsOver (picture_of l.core) l.search.change l.search.frame.0 q k → ⊥ }
