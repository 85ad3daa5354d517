use Rattle.inspection.proofs.Told.{told}
use Rattle.inspection.proofs.views.file_view.Goals as goal

pub returns-in_ok-memory-in-Sv39 : goal.returns-in_ok-memory-in-Sv39
returns-in_ok-memory-in-Sv39 g c =
    rw c.in-Sv39.is (rw (← c.in_ok-memory-in-Sv39.ensures.memory) (told c.file_view.result c.in_ok-memory-in-Sv39.ensures.none.1 c.file_view.ensures.some c.file_view.ensures.none))

pub returns-in_ok-memory-in-Sv48 : goal.returns-in_ok-memory-in-Sv48
returns-in_ok-memory-in-Sv48 g c =
    rw c.in-Sv48.is (rw (← c.in_ok-memory-in-Sv48.ensures.memory) (told c.file_view-in-Sv48.result c.in_ok-memory-in-Sv48.ensures.none.1 c.file_view-in-Sv48.ensures.some c.file_view-in-Sv48.ensures.none))
