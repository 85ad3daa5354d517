use Rattle.std.proofs.Common.{◌+◌, arith, refl, slice_set}
use Rattle.pool_journal.proofs.Runs.{joined, none_left, one_left}
use Rattle.pool_journal.proofs.forgetting.forget_each.Goals as goal

pub loop-i-init : goal.loop-i-init
loop-i-init c = none_left c.args.homes.now c.args.from c.args.numbers.now

pub loop-i-preserved : goal.loop-i-preserved
loop-i-preserved c =
    let homes = c.args.homes.now in
    let i = c.loop-i.i in
    let at = c.args.from + i in
    let so_far = c.loop-i.invariant in
    joined homes c.args.from i at 1 (i + 1) c.args.numbers.now c.loop-i.numbers (slice_set c.loop-i.numbers at c.but-left.result) c.loop-i.gone c.from-gone.result refl refl so_far
    (one_left homes at c.but-left.result c.from-gone.result c.loop-i.numbers (omega (arith, c.loop-i-test.true, c.requires.room, so_far.size)) c.but-left.ensures c.from-gone.ensures)
