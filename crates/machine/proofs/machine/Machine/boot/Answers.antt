use Rattle.machine.proofs.Names.{sym}
use Rattle.machine.proofs.machine.Machine.boot.Goals as goal

pub returns-in-Ok-clause-starts : goal.returns-in-Ok-clause-starts
returns-in-Ok-clause-starts g c = let made = c.in-Ok.ensures.starts in record { room = record { frames = made.frames; slots = made.slots; mode = sym c.in-Sv39.is }; swap = made.swap }
