use Rattle.residency.{proofs.Names.{user_end, ℕ, ◌-◌, ◌<◌, ◌≤◌}, specs.{LeafChanges.{ChangesEntries}, Leaves.{IsOver}, Picture.{picture_of}}}
use Rattle.residency.proofs.leaves.change_in.Given as goal

abbrev pub invariant-loop-page : goal.invariant-loop-page
invariant-loop-page g l = record {
  entries : ChangesEntries l.search.change l.search.frame.0 l.fn.core l.core;
  below : l.low ≤ user_end g.M.Levels.mode;
  clear : (k : ℕ) → k < l.low → IsOver (picture_of l.core) l.search.change l.search.frame.0 l.process.pid k → ⊥;
}

abbrev pub decreases-loop-page : goal.decreases-loop-page
decreases-loop-page g l = user_end g.M.Levels.mode - l.low
