use Rattle.inspection.proofs.Names.{sym}
use Rattle.inspection.proofs.walks.root_step.Goals as goal

pub step_in-requires-clause-table : goal.step_in-requires-clause-table
step_in-requires-clause-table g c = (c.requires.fit.rooted.roots c.args.pid c.in-Some.root.0 (sym c.in-Some.ensures)).table
