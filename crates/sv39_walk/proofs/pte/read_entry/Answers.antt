use Rattle.{std.proofs.{Common.{arith}, lemmas.Grind.{common_steps}}, sv39_walk.specs.Entry.{entry_at}}
use Rattle.sv39_walk.proofs.pte.read_entry.Goals as goal

pub returns : goal.returns
unfolding entry_at
returns c = grind (arith, common_steps)
