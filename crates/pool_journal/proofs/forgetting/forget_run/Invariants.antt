use Rattle.std.proofs.Common.{◌*◌}
use Rattle.pool_journal.specs.Giving.{ForgetsRun}
use Rattle.pool_journal.proofs.forgetting.forget_run.Given as goal

abbrev pub invariant-loop-part : goal.invariant-loop-part
invariant-loop-part l = ForgetsRun l.homes l.from (8 * l.part) l.fn.numbers l.numbers l.gone
