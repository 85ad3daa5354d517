use Rattle.{std.proofs.Common.{◌≡◌, ◌≤◌, take}, stop_trials.specs.Lines.{acknowledged_in}}
use Rattle.stop_trials.proofs.runs.acknowledged_in.Given as goal

abbrev pub invariant-loop-i : goal.invariant-loop-i
invariant-loop-i l = record { few : l.acknowledged ≤ l.i; counted : l.acknowledged ≡ acknowledged_in (take l.i l.commands) (take l.i l.replies) }
