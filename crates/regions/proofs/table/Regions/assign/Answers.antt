use Rattle.std.proofs.{Common.{arith}, lemmas.Grind.{common_steps}}
use Rattle.regions.proofs.table.Regions.assign.Goals as goal

pub returns : goal.returns
returns g c = grind (arith, common_steps)
