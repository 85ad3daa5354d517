use Rattle.std.proofs.{Common.{arith}, lemmas.Grind.{common_steps}}
use Rattle.regions.proofs.table.Regions.lowest_gap.Goals as goal

pub loop-run-preserved : goal.loop-run-preserved
loop-run-preserved g c = grind (arith, common_steps)
