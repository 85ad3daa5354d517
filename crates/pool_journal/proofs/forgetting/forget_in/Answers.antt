use Rattle.std.proofs.Common.{◌+◌, ◌*◌, arith}
use Rattle.pool_journal.proofs.Runs.{joined, none_left}
use Rattle.pool_journal.proofs.forgetting.forget_in.Goals as goal

pub loop-run-init : goal.loop-run-init
loop-run-init c = none_left c.args.homes.now 0 c.args.numbers.now

pub loop-run-preserved : goal.loop-run-preserved
loop-run-preserved c =
    let run = c.loop-run.run in
    joined c.args.homes.now 0 (72 * run) (72 * run) 72 (72 * (run + 1)) c.args.numbers.now c.loop-run.numbers c.forget_run-gone.new.numbers c.loop-run.gone c.forget_run-gone.result
    (omega arith) (omega arith) c.loop-run.invariant c.forget_run-gone.ensures
