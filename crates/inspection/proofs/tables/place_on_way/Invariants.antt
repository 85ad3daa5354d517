use Rattle.inspection.{proofs.Names.{top_level, ◌≡◌, ℕ, ◌-◌, ◌<◌, Some, Way, picture_of}, specs.Walks.{IsStep}}
use Rattle.inspection.proofs.tables.place_on_way.Given as goal

-- no table above this step's is the one
abbrev pub invariant-loop-n : goal.invariant-loop-n
invariant-loop-n g l = record {
  stands : IsStep (picture_of l.core) l.pid l.page l.step;
  passed : (r d : ℕ) → (picture_of l.core).root l.pid ≡ Some r → d < top_level g.M.Levels.mode - l.step.level → Way l.core.frames (top_level g.M.Levels.mode) r l.page d l.n.0 → ⊥;
}

abbrev pub decreases-loop-n : goal.decreases-loop-n
decreases-loop-n g l = l.step.level
