use Rattle.std.proofs.Common.{◌-◌, ◌≤◌}
use Rattle.vm_types.specs.Limits.{user_start, user_end}
use Rattle.truncation.specs.Steps.{ClearsIn}
use Rattle.truncation.proofs.clearing.clear_process.Given as goal

abbrev pub invariant-loop-run : goal.invariant-loop-run
invariant-loop-run g l = record { low : user_start ≤ l.page; done : ClearsIn l.initial.core l.core l.file l.length l.pid user_start l.page }

abbrev pub decreases-loop-run : goal.decreases-loop-run
decreases-loop-run g l = user_end g.M.Levels.mode - l.page
