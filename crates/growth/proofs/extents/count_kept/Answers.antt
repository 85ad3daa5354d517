use Rattle.std.proofs.Common.{◌≤◌, length, arith}
use Rattle.growth.proofs.Kept.{count_past_new}
use Rattle.growth.proofs.extents.count_kept.Goals as goal

pub returns-clause-count : goal.returns-clause-count
returns-clause-count c =
    let past : length c.args.new.now ≤ c.loop-i.i = omega arith in
    let none = count_past_new c.args.old.now c.args.new.now c.loop-i.i past in
    omega (arith, c.loop-i.invariant, none)
