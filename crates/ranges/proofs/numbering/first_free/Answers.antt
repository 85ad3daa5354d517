use Rattle.ranges.proofs.{Marking.{least_here_at, least_on_at, least_end_at}, Names.{false, get_or, sym, ◌∙◌, arith, named_limit}}
use Rattle.ranges.proofs.numbering.first_free.Goals as goal

pub returns-then-not-used-n : goal.returns-then-not-used-n
returns-then-not-used-n c = sym (c.loop-n.invariant.rest ∙ least_here_at (λ o. get_or c.args.used.now o false) c.loop-n.n named_limit c.loop-n-test.true c.if-not-used-n.true)

pub loop-n-preserved : goal.loop-n-preserved
loop-n-preserved c = record { rest = c.loop-n.invariant.rest ∙ least_on_at (λ o. get_or c.args.used.now o false) c.loop-n.n named_limit c.loop-n-test.true c.if-not-used-n.false }

pub returns : goal.returns
returns c = sym (c.loop-n.invariant.rest ∙ least_end_at (λ o. get_or c.args.used.now o false) c.loop-n.n named_limit (omega (arith, c.loop-n-test.false)) (omega (arith, c.loop-n.auto.n-end)))
