use Rattle.std.proofs.Common.{rules}
use Rattle.sv39_walk.proofs.translation.next_table.Goals as goal

pub returns-then-frame-from : goal.returns-then-frame-from
returns-then-frame-from c = search rules
