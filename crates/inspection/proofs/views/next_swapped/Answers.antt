use Rattle.inspection.proofs.Told.{told}
use Rattle.inspection.proofs.views.next_swapped.Goals as goal

pub returns-in_ok-memory-in-Sv39 : goal.returns-in_ok-memory-in-Sv39
returns-in_ok-memory-in-Sv39 g c =
    rw c.in-Sv39.is (rw (← c.in_ok-memory-in-Sv39.ensures.memory) (told c.next_swapped.result c.in_ok-memory-in-Sv39.ensures.none.1 c.next_swapped.ensures.some c.next_swapped.ensures.none))

pub returns-in_ok-memory-in-Sv48 : goal.returns-in_ok-memory-in-Sv48
returns-in_ok-memory-in-Sv48 g c =
    rw c.in-Sv48.is (rw (← c.in_ok-memory-in-Sv48.ensures.memory) (told c.next_swapped-in-Sv48.result c.in_ok-memory-in-Sv48.ensures.none.1 c.next_swapped-in-Sv48.ensures.some c.next_swapped-in-Sv48.ensures.none))
