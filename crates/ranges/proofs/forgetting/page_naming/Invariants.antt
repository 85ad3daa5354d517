use Rattle.ranges.proofs.Names.{user_end, names, ◌≡◌, false, ℕ, ◌-◌, ◌<◌, ◌≤◌, picture_of}
use Rattle.ranges.proofs.forgetting.page_naming.Given as goal

abbrev pub invariant-loop-run : goal.invariant-loop-run
invariant-loop-run g l = record {
  low : l.first ≤ l.from;
  none : (k : ℕ) → l.first ≤ k → k < l.from → k < l.end → names ((picture_of l.core).at l.pid k) l.page.object l.page.page ≡ false;
}

abbrev pub decreases-loop-run : goal.decreases-loop-run
decreases-loop-run g l = user_end g.M.Levels.mode - l.from
