use Rattle.inspection.proofs.Told.{told}
use Rattle.inspection.proofs.views.frame_view.Goals as goal

pub returns-in_ok-memory-in-Sv39 : goal.returns-in_ok-memory-in-Sv39
returns-in_ok-memory-in-Sv39 g c =
    rw c.in-Sv39.is (rw (← c.in_ok-memory-in-Sv39.ensures.memory) (told c.frame_view.result c.in_ok-memory-in-Sv39.ensures.none.1 c.frame_view.ensures.some c.frame_view.ensures.none))

pub returns-in_ok-memory-in-Sv48 : goal.returns-in_ok-memory-in-Sv48
returns-in_ok-memory-in-Sv48 g c =
    rw c.in-Sv48.is (rw (← c.in_ok-memory-in-Sv48.ensures.memory) (told c.frame_view-in-Sv48.result c.in_ok-memory-in-Sv48.ensures.none.1 c.frame_view-in-Sv48.ensures.some c.frame_view-in-Sv48.ensures.none))
