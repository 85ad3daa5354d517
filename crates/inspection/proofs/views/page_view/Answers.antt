use Rattle.inspection.proofs.views.page_view.Goals as goal

pub returns-in_ok-memory-in-Sv39-clause-view : goal.returns-in_ok-memory-in-Sv39-clause-view
returns-in_ok-memory-in-Sv39-clause-view g c = rw c.in-Sv39.is (rw (← c.in_ok-memory-in-Sv39.ensures.memory) c.page_view.ensures)

pub returns-in_ok-memory-in-Sv48-clause-view : goal.returns-in_ok-memory-in-Sv48-clause-view
returns-in_ok-memory-in-Sv48-clause-view g c = rw c.in-Sv48.is (rw (← c.in_ok-memory-in-Sv48.ensures.memory) c.page_view-in-Sv48.ensures)
