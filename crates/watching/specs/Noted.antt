-- What a ledger keeps of frames.
use Rattle.std.specs.Prelude.{◌≡◌, ◌≢◌, ◌<◌, ℕ, Bool, true, false, not, List, length, Some, slice_get}
use Rattle.frames.specs.FrameTable.{IsFrame}
use Rattle.inspection.specs.Frames.{IsFrameView}
use Rattle.inspection.specs.Machines.{memory_of}
use Rattle.machine.specs.declared.machine.Machine.{Machine}
use Rattle.vm_types.specs.declared.command.Command.{Command}
use Rattle.vm_types.specs.declared.command.Command.TheVariants as Commands
use Rattle.watching.specs.declared.ledger.Held.{Held}
use Rattle.watching.specs.declared.pending.Outcome.{Outcome}
use Rattle.watching.specs.declared.pending.Outcome.TheVariants.{Done, Refused, Faulted, Stalled, Halted}

module _ {D E : Type 0} where
  -- Frame n is kept as it is.
  pub record NotesFrame (m : Machine D E) (kept : List Held) (n : ℕ) : Type 0 where
    pub held : Held
    pub at : slice_get kept n ≡ Some held
    pub view : IsFrameView (memory_of m) n held.view

  -- so many frames from the first on are, as far as memory has them
  abbrev pub NotesFrames : Machine D E → List Held → ℕ → Type 0
  NotesFrames m kept count = (n : ℕ) → n < count → IsFrame (memory_of m).frames n → NotesFrame m kept n

-- What is kept of frames but frame n stays:
pub record KeepsNotes (n : ℕ) (old new : List Held) : Type 0 where
  -- of as many,
  pub count : length new ≡ length old
  -- the same of each.
  pub same : (k : ℕ) → k ≢ n → slice_get new k ≡ slice_get old k

-- an access, of which the frames are compared that one can change
abbrev pub is_access : Command → Bool
is_access (Commands.Load pid addr width) = true
is_access (Commands.Store pid addr stored) = true
is_access (Commands.Fetch pid addr) = true
is_access other = false

-- after that outcome all frames are compared, where the command is no access, or where it stalled
abbrev pub reaches_all : Bool → Outcome → Bool
reaches_all access Stalled = true
reaches_all access Done = not access
reaches_all access Refused = false
reaches_all access Faulted = false
reaches_all access Halted = false

-- whether all frames are compared after a command; the history of faults changes nothing
abbrev pub compares_all : Command → Outcome → Bool
compares_all Commands.PastFaults outcome = false
compares_all command outcome = reaches_all (is_access command) outcome
