use Rattle.ranges.proofs.Names.{top_level, user_end, ◌≡◌, ℕ, ◌-◌, ◌<◌, ◌≤◌, IsPage, picture_of, entry}
use Rattle.ranges.proofs.rows.linked_part.Given as goal

abbrev pub invariant-loop-run : goal.invariant-loop-run
invariant-loop-run g l = record { from : l.page ≤ l.at; gap : (p : ℕ) → IsPage (top_level g.M.Levels.mode) p → l.page ≤ p → p < l.at → entry (picture_of l.core) l.pid p ≡ 0 }

abbrev pub decreases-loop-run : goal.decreases-loop-run
decreases-loop-run g l = user_end g.M.Levels.mode - l.at
