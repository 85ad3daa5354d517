use Rattle.lifecycle.{proofs.Names.{user_end, ◌-◌, ◌≤◌}, specs.ChildShares.{GivesShares}}
use Rattle.lifecycle.proofs.sharing.share_pages.Given as goal

abbrev pub invariant-loop-part : goal.invariant-loop-part
invariant-loop-part g l = record { from : 16 ≤ l.page; most : l.page ≤ user_end g.M.Levels.mode; gives : GivesShares l.fn.core l.core l.parent l.child 16 l.page }

abbrev pub decreases-loop-part : goal.decreases-loop-part
decreases-loop-part g l = user_end g.M.Levels.mode - l.page
