use Rattle.std.proofs.Common.{rules}
use Rattle.sv39_walk.proofs.pte.Pte.is_leaf.Goals as goal

pub returns-else-is_readable : goal.returns-else-is_readable
returns-else-is_readable c = search rules
