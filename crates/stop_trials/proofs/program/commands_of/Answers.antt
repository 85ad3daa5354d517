use Rattle.{std.proofs.Common.{◌+◌, ap, ◌∙◌, map, take, subst, sym}, stop_trials.{proofs.Lines.{next_command, next_none}, specs.Lines.{AreCommandsOf}}}
use Rattle.stop_trials.proofs.program.commands_of.Goals as goal
use Rattle.stop_trials.proofs.program.commands_of.Goals.{in-Ok+in_ok-push, in_default}

pub loop-line-preserved : goal.loop-line-preserved
loop-line-preserved c =
    elim c.match-parse_line.branch [
      | in-Ok+in_ok-push w ↦
          next_command c.args.lines.now c.loop-line.line-index _ c.loop-line.commands.items c.match-parse_line.commands.items w.in-Ok.command c.loop-line-test.true c.loop-line.invariant
          w.in-Ok.ensures.found (ap (λ v. v.items) w.commands-is ∙ w.in_ok-push.ensures.items)
      | in_default w ↦
          subst (λ v. AreCommandsOf (map (λ line. line.now) (take (c.loop-line.line-index + 1) c.args.lines.now)) v.items) (sym w.commands-is)
          (next_none c.args.lines.now c.loop-line.line-index _ c.loop-line.commands.items c.loop-line-test.true c.loop-line.invariant w.in_default.ensures.none)
    ]
