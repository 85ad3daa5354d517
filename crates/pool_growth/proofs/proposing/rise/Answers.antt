use Rattle.std.proofs.Common.{arith}
use Rattle.pool_growth.proofs.Proposed.{rise_on}
use Rattle.pool_growth.proofs.proposing.rise.Goals as goal

pub returns-clause-all : goal.returns-clause-all
returns-clause-all c = λ _. rise_on c.args.sizes.now (λ j d inside. c.loop-i.invariant j d (omega (arith, inside)))
