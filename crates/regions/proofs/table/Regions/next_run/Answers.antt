use Rattle.regions.{specs.RunList.{attr_at}, proofs.WalkLemmas.{first_part-is, next_none, next_some}}
use Rattle.regions.proofs.table.Regions.next_run.Goals as goal

pub returns-clause-none : goal.returns-clause-none
returns-clause-none g c = rw c.first_part.ensures.found (next_none g.M.Levels.mode (attr_at c.args.self.now) c.args.page _ (first_part-is g.M.Levels.mode 16 c.args.page c.args.self.now c.first_part.ensures.maximal))

pub returns-clause-some : goal.returns-clause-some
returns-clause-some g c = rw c.first_part.ensures.found (next_some g.M.Levels.mode (attr_at c.args.self.now) c.args.page _ (first_part-is g.M.Levels.mode 16 c.args.page c.args.self.now c.first_part.ensures.maximal))
