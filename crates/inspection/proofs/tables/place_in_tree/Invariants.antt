use Rattle.inspection.proofs.Names.{top_level, user_end, ◌≡◌, ℕ, ◌-◌, ◌<◌, Some, IsOnWay, picture_of, IsMapped}
use Rattle.inspection.proofs.tables.place_in_tree.Given as goal

-- it is not on the way to a mapped page before this one
abbrev pub invariant-loop-run : goal.invariant-loop-run
invariant-loop-run g l =
    (r k : ℕ) → (picture_of l.core).root l.pid ≡ Some r → k < l.low → IsMapped (picture_of l.core) l.pid k → IsOnWay l.core.frames (top_level g.M.Levels.mode) r k l.n.0 → ⊥

abbrev pub decreases-loop-run : goal.decreases-loop-run
decreases-loop-run g l = user_end g.M.Levels.mode - l.low
