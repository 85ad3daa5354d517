use Rattle.spaces.proofs.{Guards.{Unguarded}, Names.{user_end, ◌-◌, ◌≤◌, files_of}}
use Rattle.spaces.proofs.protections.has_guarded.Given as goal

abbrev pub invariant-loop-run : goal.invariant-loop-run
invariant-loop-run g l = record { from : l.fn.range.first ≤ l.page; past : Unguarded g.M.Levels.mode (files_of l.store) l.regions l.fn.range.first l.page }

abbrev pub decreases-loop-run : goal.decreases-loop-run
decreases-loop-run g l = user_end g.M.Levels.mode - l.page
