use Rattle.lifecycle.proofs.sharing.table_for.Goals as goal

pub table_of-requires-clause-root : goal.table_of-requires-clause-root
table_of-requires-clause-root g c = c.requires.fit.rooted.roots c.args.pid c.root_of-root.result.0 c.root_of-root.ensures
