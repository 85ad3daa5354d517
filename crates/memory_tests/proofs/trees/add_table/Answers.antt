use Rattle.memory_tests.proofs.trees.add_table.Goals as goal

pub missing_tables-requires-clause-root : goal.missing_tables-requires-clause-root
missing_tables-requires-clause-root g c = c.new_table-table.ensures.roots c.args.root.0 c.requires.root

pub returns-clause-others : goal.returns-clause-others
returns-clause-others g c r is_root =
    c.link_table.ensures.links.roots r (c.new_table-table.ensures.apart r is_root.table) (c.new_table-table.ensures.roots r is_root)
