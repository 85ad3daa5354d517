use Rattle.ranges.proofs.Names.{user_end, names, ◌≡◌, false, ℕ, ◌-◌, ◌<◌, ◌≤◌, picture_of}
use Rattle.ranges.proofs.forgetting.next_common.Given as goal

abbrev pub invariant-loop-run : goal.invariant-loop-run
invariant-loop-run g l = record { low : l.first ≤ l.from; none : (k object page : ℕ) → l.first ≤ k → k < l.from → names ((picture_of l.core).at l.pid k) object page ≡ false }

abbrev pub decreases-loop-run : goal.decreases-loop-run
decreases-loop-run g l = user_end g.M.Levels.mode - l.from
