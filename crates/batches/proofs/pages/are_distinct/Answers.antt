use Rattle.batches.proofs.Listed.{rising_distinct, distinct_more, listed_twice}
use Rattle.batches.proofs.pages.are_distinct.Goals as goal

pub loop-i-init : goal.loop-i-init
loop-i-init c = rising_distinct c.args.pages.now c.rising_count-i.result c.rising_count-i.ensures.rising

pub returns-then-is_among-clause-twice : goal.returns-then-is_among-clause-twice
returns-then-is_among-clause-twice c = let among = c.is_among.ensures.among c.if-is_among.true in λ _ distinct. listed_twice c.args.pages.now c.loop-i.i _ among.0 c.loop-i-test.true among.1 distinct

pub loop-i-preserved : goal.loop-i-preserved
loop-i-preserved c = distinct_more c.args.pages.now c.loop-i.i _ c.loop-i-test.true (c.is_among.ensures.absent c.if-is_among.false) c.loop-i.invariant
