use Rattle.residency.proofs.{Names.{arith, rules}, Refusing.{above_of}}
use Rattle.residency.proofs.views.next_over.Goals as goal

pub returns-in-Some : goal.returns-in-Some
returns-in-Some g c = record { some = search rules; none = search rules }

pub invariant_of-search : goal.invariant_of-search
invariant_of-search g c = let nonzero = above_of c.args.core.now.frames c.args.frame.0 c.args.core.now.sound c.requires.data in record { above = omega (arith, nonzero) }
