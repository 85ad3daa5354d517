use Rattle.std.proofs.Common.{◌+◌, ◌*◌, arith, refl}
use Rattle.pool_journal.proofs.Runs.{joined, none_left, part_left}
use Rattle.pool_journal.proofs.forgetting.forget_run.Goals as goal

pub returns-then-not-may_have : goal.returns-then-not-may_have
returns-then-not-may_have c = part_left c.args.homes.now c.args.from 72 c.args.numbers.now c.requires.room (c.may_have.ensures c.if-not-may_have.true)

pub loop-part-init : goal.loop-part-init
loop-part-init c = none_left c.args.homes.now c.args.from c.args.numbers.now

pub loop-part-preserved : goal.loop-part-preserved
loop-part-preserved c =
    let part = c.loop-part.part in
    joined c.args.homes.now c.args.from (8 * part) (c.args.from + 8 * part) 8 (8 * (part + 1)) c.args.numbers.now c.loop-part.numbers c.forget_part-gone.new.numbers c.loop-part.gone c.forget_part-gone.result refl
    (omega arith) c.loop-part.invariant c.forget_part-gone.ensures
