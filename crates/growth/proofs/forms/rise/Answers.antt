use Rattle.std.proofs.Common.{arith}
use Rattle.growth.proofs.Changed.{rise_on}
use Rattle.growth.proofs.forms.rise.Goals as goal

pub returns-clause-all : goal.returns-clause-all
returns-clause-all c = λ _. rise_on c.args.changes.now (λ j d inside. c.loop-i.invariant j d (omega (arith, inside)))
