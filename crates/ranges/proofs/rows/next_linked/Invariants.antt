use Rattle.ranges.proofs.Names.{top_level, ◌≢◌, ℕ, ◌-◌, ◌≤◌, ◌<◌, missing_of}
use Rattle.ranges.proofs.rows.next_linked.Given as goal

abbrev pub invariant-loop-at : goal.invariant-loop-at
invariant-loop-at g l = record { from : l.fn.page ≤ l.at; passed : (p : ℕ) → l.fn.page ≤ p → p < l.at → missing_of l.core.frames (top_level g.M.Levels.mode) l.root.0 p ≢ 0 }

abbrev pub decreases-loop-at : goal.decreases-loop-at
decreases-loop-at g l = l.end - l.at
