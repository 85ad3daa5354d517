use Rattle.{std.proofs.Common.{rules}, sv39_walk.specs.Walk.{index_of}}
use Rattle.sv39_walk.proofs.translation.table_index.Goals as goal

pub returns-clause-index : goal.returns-clause-index
unfolding index_of
returns-clause-index c = search rules
