use Rattle.inspection.proofs.Told.{told}
use Rattle.inspection.proofs.views.root_step.Goals as goal

pub returns-in_ok-memory-in-Sv39-clause-tells : goal.returns-in_ok-memory-in-Sv39-clause-tells
returns-in_ok-memory-in-Sv39-clause-tells g c =
    rw c.in-Sv39.is (rw (← c.in_ok-memory-in-Sv39.ensures.memory) (told c.root_step.result c.in_ok-memory-in-Sv39.ensures.none.1 c.root_step.ensures.some c.root_step.ensures.none))

pub returns-in_ok-memory-in-Sv48-clause-tells : goal.returns-in_ok-memory-in-Sv48-clause-tells
returns-in_ok-memory-in-Sv48-clause-tells g c =
    rw c.in-Sv48.is (rw (← c.in_ok-memory-in-Sv48.ensures.memory) (told c.root_step-in-Sv48.result c.in_ok-memory-in-Sv48.ensures.none.1 c.root_step-in-Sv48.ensures.some c.root_step-in-Sv48.ensures.none))

pub returns-in_ok-memory-in-Sv39-clause-root : goal.returns-in_ok-memory-in-Sv39-clause-root
returns-in_ok-memory-in-Sv39-clause-root g c = rw c.in-Sv39.is (rw (← c.in_ok-memory-in-Sv39.ensures.memory) c.root_step.ensures.root)

pub returns-in_ok-memory-in-Sv48-clause-root : goal.returns-in_ok-memory-in-Sv48-clause-root
returns-in_ok-memory-in-Sv48-clause-root g c = rw c.in-Sv48.is (rw (← c.in_ok-memory-in-Sv48.ensures.memory) c.root_step-in-Sv48.ensures.root)
