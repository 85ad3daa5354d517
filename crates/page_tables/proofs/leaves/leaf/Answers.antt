use Rattle.page_tables.{proofs.Names.{rules}, specs.Leaves.{leaf_number}}
use Rattle.page_tables.proofs.leaves.leaf.Goals as goal

pub returns : goal.returns
unfolding leaf_number
returns c = search rules
