use Rattle.inspection.proofs.views.hand.Goals as goal

pub returns-in_ok-memory-in-Sv39-clause-inside : goal.returns-in_ok-memory-in-Sv39-clause-inside
returns-in_ok-memory-in-Sv39-clause-inside g c = rw c.in-Sv39.is (rw (← c.in_ok-memory-in-Sv39.ensures.memory) c.hand.ensures.inside)

pub returns-in_ok-memory-in-Sv48-clause-inside : goal.returns-in_ok-memory-in-Sv48-clause-inside
returns-in_ok-memory-in-Sv48-clause-inside g c = rw c.in-Sv48.is (rw (← c.in_ok-memory-in-Sv48.ensures.memory) c.hand-in-Sv48.ensures.inside)
