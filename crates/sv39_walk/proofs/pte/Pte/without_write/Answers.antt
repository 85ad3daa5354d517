use Rattle.{std.proofs.Common.{arith}, sv39_walk.proofs.Bits.{write_weighs}}
use Rattle.sv39_walk.proofs.pte.Pte.without_write.Goals as goal

pub overflow_sub-result : goal.overflow_sub-result
overflow_sub-result c = write_weighs c.args.self.0 c.requires

pub returns : goal.returns
returns c = let least = write_weighs c.args.self.0 c.requires in omega (arith, least)
