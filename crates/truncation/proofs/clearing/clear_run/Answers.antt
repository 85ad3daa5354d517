use Rattle.std.proofs.Common.{arith}
use Rattle.vm_types.proofs.Modes.{sizes}
use Rattle.truncation.proofs.Cleared.{run_cleared}
use Rattle.truncation.proofs.clearing.clear_run.Goals as goal

pub first_past-requires-clause-high : goal.first_past-requires-clause-high
first_past-requires-clause-high g c = omega (arith, c.requires.high, (sizes g.M.Levels.mode).most)

pub returns-in-Some : goal.returns-in-Some
returns-in-Some g c = run_cleared c.args.file c.args.length c.args.core.now c.clear_row.new.core c.args.pid c.args.run c.in-Some.first c.requires c.in-Some.ensures.some c.clear_row.ensures
