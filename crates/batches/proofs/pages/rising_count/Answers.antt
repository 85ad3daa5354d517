use Rattle.{std.proofs.Common.{arith}, batches.proofs.Listed.{rising_more}}
use Rattle.batches.proofs.pages.rising_count.Goals as goal

pub loop-i-preserved : goal.loop-i-preserved
loop-i-preserved c = rising_more c.args.pages.now c.loop-i.i (record { file = 0; page = 0 }) (omega (arith, c.loop-i.auto.i)) c.loop-i-test.true
    (omega (arith, c.place_of.ensures, c.place_of-in-loop-i.ensures, c.if-place_of.false)) c.loop-i.invariant
