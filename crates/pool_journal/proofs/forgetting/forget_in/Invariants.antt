use Rattle.std.proofs.Common.{◌*◌}
use Rattle.pool_journal.specs.Giving.{ForgetsRun}
use Rattle.pool_journal.proofs.forgetting.forget_in.Given as goal

abbrev pub invariant-loop-run : goal.invariant-loop-run
invariant-loop-run l = ForgetsRun l.homes 0 (72 * l.run) l.fn.numbers l.numbers l.gone
