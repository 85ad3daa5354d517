use Rattle.{std.proofs.Common.{arith}, sv39_walk.proofs.Bits.{accessed_weighs}}
use Rattle.sv39_walk.proofs.pte.Pte.without_accessed.Goals as goal

pub overflow_sub-result : goal.overflow_sub-result
overflow_sub-result c = accessed_weighs c.args.self.0 c.requires

pub returns : goal.returns
returns c = let least = accessed_weighs c.args.self.0 c.requires in omega (arith, least)
