-- What is counted and kept after a command.
use Rattle.std.specs.Prelude.{◌≡◌, ◌-◌, ◌^◌, true, false, length, min, Result, OnOk}
use Rattle.machine.specs.Machine.{halted_of}
use Rattle.machine.specs.declared.machine.Machine.{Machine}
use Rattle.vm_types.specs.declared.command.Command.{Command}
use Rattle.watching.specs.Books.{KeepsBooks}
use Rattle.watching.specs.Noted.{NotesFrames, compares_all}
use Rattle.watching.specs.declared.ledger.Ledger.{Ledger}
use Rattle.watching.specs.declared.pending.Outcome.{Outcome}

-- A command that came to this outcome was counted:
pub record CountsCommand {D E A X : Type 0} (m : Machine D E) (command : Command) (outcome : Outcome) (old new : Ledger) (result : Result A X) : Type 0 where
  -- the books of frames were kept on,
  pub books : KeepsBooks old.counts.frames new.counts.frames
  -- and each frame is kept as it is, where the command is one after which all are compared.
  pub frames : compares_all command outcome ≡ true → halted_of m ≡ false → OnOk result (NotesFrames m new.frames.items (min (length old.frames.items) (2 ^ 32 - 1)))
