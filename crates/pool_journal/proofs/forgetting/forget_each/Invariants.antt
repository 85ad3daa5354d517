use Rattle.pool_journal.specs.Giving.{ForgetsRun}
use Rattle.pool_journal.proofs.forgetting.forget_each.Given as goal

abbrev pub invariant-loop-i : goal.invariant-loop-i
invariant-loop-i l = ForgetsRun l.homes l.from l.i l.fn.numbers l.numbers l.gone
