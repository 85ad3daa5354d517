use Rattle.residency.proofs.{Names.{arith}, Refusing.{above_of}}
use Rattle.residency.proofs.leaves.change_leaves.Goals as goal

pub invariant_of-search : goal.invariant_of-search
invariant_of-search g c = let nonzero = above_of c.args.core.now.frames c.args.frame.0 c.args.core.now.sound c.requires.data in record { above = omega (arith, nonzero) }
