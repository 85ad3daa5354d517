-- A trace that was run: which of its lines, with which replies, and what a stop leaves.
use Rattle.std.specs.Prelude.{◌≡◌, ◌⊎◌, ℕ, List, ◌++◌, Option}
use Rattle.std.specs.Io.KnownBytes.{Appends, Consumes, IsAtEnd}
use Rattle.disk_model.specs.declared.sector_disk.SectorDisk.{Ghosts}
use Rattle.vm_types.specs.declared.command.Command.{Command}
use Rattle.vm_types.specs.declared.reply.Reply.{Reply}
use Rattle.vm_types.specs.State.{State}
use Rattle.machine.specs.declared.machine.Machine.{Machine}
use Rattle.machine.specs.Chain.{Caused, Runs}
use Rattle.trace_lang.specs.Lines.{lines_of, Cuts}
use Rattle.runner.specs.declared.engine.RunEnd.{RunEnd}
use Rattle.runner.specs.declared.engine.RunEnd.TheVariants.{Done, ReadFault, WriteFault}
use Rattle.runner.specs.Bytes.{WritesBeginning}
use Rattle.runner.specs.Session.{Answered}

-- What a reader has left, and what a writer holds, where they tell.
pub record Streams : Type 0 where
  pub left : Option (List ℕ)
  pub held : Option (List ℕ)

abbrev pub streams : Option (List ℕ) → Option (List ℕ) → Streams
streams l h = record { left = l; held = h }

-- Which of the lines of the bytes that were read were run, and what was written of the texts of their replies.
-- Done: the reader is at its end, and all was run and written. A read fault: the complete lines were run, an unfinished
-- one was not, and all was written. A write fault: a beginning was written, and the lines that were run are the complete
-- ones of a beginning of the bytes, or all where the reader is at its end.
abbrev pub EndsTrace : RunEnd → List ℕ → List (List ℕ) → List ℕ → Streams → Streams → Type 0
EndsTrace Done bytes lines text old new = IsAtEnd new.left × (lines ≡ lines_of bytes) × Appends old.held new.held text
EndsTrace ReadFault bytes lines text old new = ((rest : List ℕ) × Cuts bytes lines rest) × Appends old.held new.held text
EndsTrace WriteFault bytes lines text old new =
    (((front more rest : List ℕ) × (bytes ≡ front ++ more) × Cuts front lines rest) ⊎ (IsAtEnd new.left × (lines ≡ lines_of bytes)))
    × WritesBeginning old.held new.held text

module _ {D E : Type 0} (g : Ghosts D) (h : Ghosts E) where
  -- Whatever the devices do: the lines that were run got replies to their commands, and a reply names a device
  -- or the want of a frame only where it failed as its command was carried out, or was refused.
  pub record CausedTrace (end : RunEnd) (old new : Machine D E) (before after : Streams) : Type 0 where
    pub bytes : List ℕ
    pub read : Consumes before.left after.left bytes
    pub lines : List (List ℕ)
    pub commands : List Command
    pub replies : List Reply
    pub text : List ℕ
    pub answered : Answered lines commands replies text
    pub caused : Caused g h old replies new
    pub ends : EndsTrace end bytes lines text before after

  -- The lines that were run got the replies of the flat model to their commands, and every image of a stop meanwhile
  -- stands for what some of their msyncs left.
  pub record RunsTrace (end : RunEnd) (old new : Machine D E) (before after : Streams) (s : State) : Type 0 where
    pub bytes : List ℕ
    pub read : Consumes before.left after.left bytes
    pub lines : List (List ℕ)
    pub commands : List Command
    pub replies : List Reply
    pub text : List ℕ
    pub answered : Answered lines commands replies text
    pub runs : Runs g h old new commands replies s
    pub ends : EndsTrace end bytes lines text before after
