use Rattle.inspection.proofs.{Names.{Sv39, Sv48}, Told.{step_of, told}}
use Rattle.inspection.proofs.views.next_step.Goals as goal

pub next_step-requires-clause-step : goal.next_step-requires-clause-step
next_step-requires-clause-step g c =
    rw c.in_ok-memory-in-Sv39.ensures.memory (step_of c.args.machine.now (Sv39 c.in-Sv39.engine) c.args.page c.args.step c.in-Sv39.is c.requires.step)

pub next_step-requires-in-Sv48-clause-step : goal.next_step-requires-in-Sv48-clause-step
next_step-requires-in-Sv48-clause-step g c =
    rw c.in_ok-memory-in-Sv48.ensures.memory (step_of c.args.machine.now (Sv48 c.in-Sv48.engine) c.args.page c.args.step c.in-Sv48.is c.requires.step)

pub returns-in_ok-memory-in-Sv39-clause-tells : goal.returns-in_ok-memory-in-Sv39-clause-tells
returns-in_ok-memory-in-Sv39-clause-tells g c =
    rw c.in-Sv39.is (rw (← c.in_ok-memory-in-Sv39.ensures.memory) (told c.next_step.result c.in_ok-memory-in-Sv39.ensures.none.1 c.next_step.ensures.some c.next_step.ensures.none))

pub returns-in_ok-memory-in-Sv39-clause-next : goal.returns-in_ok-memory-in-Sv39-clause-next
returns-in_ok-memory-in-Sv39-clause-next g c = rw c.in-Sv39.is (rw (← c.in_ok-memory-in-Sv39.ensures.memory) c.next_step.ensures.next)

pub returns-in_ok-memory-in-Sv48-clause-tells : goal.returns-in_ok-memory-in-Sv48-clause-tells
returns-in_ok-memory-in-Sv48-clause-tells g c =
    rw c.in-Sv48.is (rw (← c.in_ok-memory-in-Sv48.ensures.memory) (told c.next_step-in-Sv48.result c.in_ok-memory-in-Sv48.ensures.none.1 c.next_step-in-Sv48.ensures.some c.next_step-in-Sv48.ensures.none))

pub returns-in_ok-memory-in-Sv48-clause-next : goal.returns-in_ok-memory-in-Sv48-clause-next
returns-in_ok-memory-in-Sv48-clause-next g c = rw c.in-Sv48.is (rw (← c.in_ok-memory-in-Sv48.ensures.memory) c.next_step-in-Sv48.ensures.next)
