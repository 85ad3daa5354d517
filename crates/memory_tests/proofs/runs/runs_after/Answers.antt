use Rattle.std.proofs.Common.{arith}
use Rattle.vm_types.proofs.Modes.{sizes}
use Rattle.memory_tests.proofs.runs.runs_after.Goals as goal

pub replace_into-requires-clause-high : goal.replace_into-requires-clause-high
replace_into-requires-clause-high g c = omega (arith, (sizes g.M.Levels.mode).least)
