use Rattle.page_tables.proofs.tables.missing_tables.Goals as goal

pub returns-clause-missing : goal.returns-clause-missing
returns-clause-missing g c = c.end_of_way-level.ensures.missing
