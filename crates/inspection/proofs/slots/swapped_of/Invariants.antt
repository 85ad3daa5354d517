use Rattle.inspection.{proofs.Names.{top_level, ℕ, ◌-◌, ◌<◌, ◌≤◌, ◌^◌, IsPage, picture_of}, specs.Slots.{IsInSlot}}
use Rattle.inspection.proofs.slots.swapped_of.Given as goal

-- no page before this one is such a page
abbrev pub invariant-loop-found : goal.invariant-loop-found
invariant-loop-found g l = record {
  from : l.low ≤ l.at;
  passed : (k : ℕ) → l.low ≤ k → k < l.at → IsPage (top_level g.M.Levels.mode) k → IsInSlot (picture_of l.core) l.n.0 l.pid k → ⊥;
}

abbrev pub decreases-loop-found : goal.decreases-loop-found
decreases-loop-found g l = 2 ^ 64 - l.at
