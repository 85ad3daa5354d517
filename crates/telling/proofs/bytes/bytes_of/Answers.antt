use Rattle.telling.proofs.Told.{told}
use Rattle.telling.proofs.bytes.bytes_of.Goals as goal

pub returns-in_ok-memory-in-Sv39 : goal.returns-in_ok-memory-in-Sv39
returns-in_ok-memory-in-Sv39 g c =
    rw c.in-Sv39.is (rw (← c.in_ok-memory-in-Sv39.ensures.memory) (told c.bytes_in.result c.in_ok-memory-in-Sv39.ensures.none.1 c.bytes_in.ensures.some c.bytes_in.ensures.none))

pub returns-in_ok-memory-in-Sv48 : goal.returns-in_ok-memory-in-Sv48
returns-in_ok-memory-in-Sv48 g c =
    rw c.in-Sv48.is (rw (← c.in_ok-memory-in-Sv48.ensures.memory) (told c.bytes_in-in-Sv48.result c.in_ok-memory-in-Sv48.ensures.none.1 c.bytes_in-in-Sv48.ensures.some c.bytes_in-in-Sv48.ensures.none))
