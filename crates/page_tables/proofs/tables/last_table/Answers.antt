use Rattle.page_tables.{proofs.{Linking.{pair}, Names.{top_level}}, specs.Tree.{last_table}}
use Rattle.page_tables.proofs.tables.last_table.Goals as goal

pub returns-clause-last : goal.returns-clause-last
returns-clause-last g c = let l = last_table c.args.frames.now c.args.page (top_level g.M.Levels.mode) c.args.root.0 in pair _ _ l.0 l.1 c.end_of_way-level.ensures.level c.end_of_way-level.ensures.table
