use Rattle.page_tables.proofs.{Names.{arith}, Places.{found_at}}
use Rattle.page_tables.proofs.tables.table_of.Goals as goal

pub returns-then-level-gt0-clause-missing : goal.returns-then-level-gt0-clause-missing
returns-then-level-gt0-clause-missing g c = (c.end_of_way-level.ensures.missing, omega (arith, c.if-level-gt0.true), c.end_of_way-level.ensures.in_levels)

pub returns-clause-found : goal.returns-clause-found
returns-clause-found g c = found_at _ _ _ _ _ _ _ c.end_of_way-level.ensures c.if-level-gt0.false
