use Rattle.inspection.proofs.views.line.Goals as goal

pub returns-in_ok-memory-in-Sv39-clause-leaf : goal.returns-in_ok-memory-in-Sv39-clause-leaf
returns-in_ok-memory-in-Sv39-clause-leaf g c = rw c.in-Sv39.is (rw (← c.in_ok-memory-in-Sv39.ensures.memory) c.line.ensures.leaf)

pub returns-in_ok-memory-in-Sv48-clause-leaf : goal.returns-in_ok-memory-in-Sv48-clause-leaf
returns-in_ok-memory-in-Sv48-clause-leaf g c = rw c.in-Sv48.is (rw (← c.in_ok-memory-in-Sv48.ensures.memory) c.line-in-Sv48.ensures.leaf)
