use Rattle.residency.{proofs.Names.{user_end, ℕ, ◌-◌, ◌<◌, ◌≤◌}, specs.{Leaves.{IsOver}, Picture.{picture_of}}}
use Rattle.residency.proofs.leaves.find_standing.Given as goal

abbrev pub invariant-loop-at : goal.invariant-loop-at
invariant-loop-at g l = record { low : l.low ≤ l.from; before : (j : ℕ) → l.low ≤ j → j < l.from → IsOver (picture_of l.core) l.search.change l.search.frame.0 l.process.pid j → ⊥ }

abbrev pub decreases-loop-at : goal.decreases-loop-at
decreases-loop-at g l = user_end g.M.Levels.mode - l.from
