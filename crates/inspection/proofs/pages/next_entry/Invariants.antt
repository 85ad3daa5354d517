use Rattle.inspection.proofs.Names.{top_level, user_start, user_end, ◌≡◌, ℕ, ◌-◌, ◌<◌, ◌≤◌, IsPage, picture_of, entry}
use Rattle.inspection.proofs.pages.next_entry.Given as goal

-- no page before this one has an entry
abbrev pub invariant-loop-page : goal.invariant-loop-page
invariant-loop-page g l = record {
  above : user_start ≤ l.at;
  from : l.low ≤ l.at;
  passed : (k : ℕ) → l.low ≤ k → k < l.at → IsPage (top_level g.M.Levels.mode) k → entry (picture_of l.core) l.pid k ≡ 0;
}

abbrev pub decreases-loop-page : goal.decreases-loop-page
decreases-loop-page g l = user_end g.M.Levels.mode - l.at
