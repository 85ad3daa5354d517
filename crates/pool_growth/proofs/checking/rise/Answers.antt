use Rattle.std.proofs.Common.{arith}
use Rattle.pool_growth.proofs.Checked.{precede_on}
use Rattle.pool_growth.proofs.checking.rise.Goals as goal

pub returns-clause-all : goal.returns-clause-all
returns-clause-all c = λ _. precede_on c.args.pages.now (λ j d inside. c.loop-i.invariant j d (omega (arith, inside)))
