use Rattle.page_tables.proofs.Keeping.{if_taken}
use Rattle.page_tables.proofs.tables.take_table.Goals as goal

pub returns-clause-taken : goal.returns-clause-taken
returns-clause-taken c = if_taken c.take.result c.args.frames.now c.take.new.self c.requires c.take.ensures.taken
