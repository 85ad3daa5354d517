use Rattle.{std.proofs.Common.{rules}, sv39_walk.specs.Entry.{high_bits}}
use Rattle.sv39_walk.proofs.pte.Pte.is_reserved.Goals as goal

pub returns-else-not-is_readable : goal.returns-else-not-is_readable
unfolding high_bits
returns-else-not-is_readable c = search rules
