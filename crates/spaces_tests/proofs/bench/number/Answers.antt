use Rattle.spaces_tests.proofs.bench.number.Goals as goal

pub entry_number-requires-clause-root : goal.entry_number-requires-clause-root
entry_number-requires-clause-root g c = c.requires.fit.rooted.roots c.in_ok-pid.pid c.root_of-root.result.0 c.root_of-root.ensures
