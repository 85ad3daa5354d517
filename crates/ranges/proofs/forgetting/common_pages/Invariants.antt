use Rattle.ranges.proofs.Names.{user_end, names, ◌≡◌, false, ℕ, ◌-◌, ◌<◌, ◌≤◌, picture_of}
use Rattle.ranges.proofs.forgetting.common_pages.Given as goal

abbrev pub invariant-loop-run : goal.invariant-loop-run
invariant-loop-run g l = record {
  low : l.first ≤ l.from;
  few : l.count ≤ l.from;
  none : l.count ≡ 0 → (k object page : ℕ) → l.first ≤ k → k < l.from → names ((picture_of l.core).at l.pid k) object page ≡ false;
}

abbrev pub decreases-loop-run : goal.decreases-loop-run
decreases-loop-run g l = user_end g.M.Levels.mode - l.from
