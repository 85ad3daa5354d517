use Rattle.{std.proofs.Common.{map, take}, stop_trials.specs.Lines.{AreCommandsOf}}
use Rattle.stop_trials.proofs.program.commands_of.Given as goal

abbrev pub invariant-loop-line : goal.invariant-loop-line
invariant-loop-line l = AreCommandsOf (map (λ line. line.now) (take l.line-index l.lines)) l.commands.items
