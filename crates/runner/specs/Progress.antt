-- How far the engine has come, by what it holds: the machine, the beginning of the open line, the bytes that the writer
-- has not taken yet, and what the writer holds where that is known.
use Rattle.std.specs.Prelude.{◌≡◌, ◌⊎◌, ℕ, ◌+◌, ◌<◌, ◌≤◌, List, [], ◌++◌, length, take, Option, Result, IfNone, OnOk, MatchOption, MatchResult}
use Rattle.std.specs.Io.KnownBytes.{Appends, Consumes, IsAtEnd}
use Rattle.disk_model.specs.declared.sector_disk.SectorDisk.{Ghosts}
use Rattle.machine.specs.declared.machine.Machine.{Machine}
use Rattle.machine.specs.Machine.{IsSoundMachine}
use Rattle.trace_lang.specs.Lines.{Cuts, HasNoNewline, lines_of}
use Rattle.runner.specs.declared.engine.RunEnd.{RunEnd}
use Rattle.runner.specs.declared.engine.RunEnd.TheVariants.{Done, ReadFault, WriteFault}
use Rattle.runner.specs.declared.output_buffer.WriteFault as Writing
use Rattle.runner.specs.Bytes.{WritesBeginning}
use Rattle.runner.specs.Session.{Answers, CarriesOut}

pub record Stage (D E : Type 0) : Type 0 where
  pub machine : Machine D E
  pub kept : List ℕ
  pub pending : List ℕ
  pub held : Option (List ℕ)

abbrev pub stage : {D E : Type 0} → Machine D E → List ℕ → List ℕ → Option (List ℕ) → Stage D E
stage m k p h = record { machine = m; kept = k; pending = p; held = h }

-- the buffer holds the beginning of the open line
pub record HoldsOpenLine (kept open_line : List ℕ) : Type 0 where
  pub front : kept ≡ take 257 open_line
  pub unfinished : HasNoNewline open_line

module _ {D E : Type 0} (g : Ghosts D) (h : Ghosts E) where
  -- the open line and the bytes after it were cut into lines, which were run with this text, and a rest
  pub record Advances (old : Machine D E) (open_line bytes text rest : List ℕ) (new : Machine D E) : Type 0 where
    pub lines : List (List ℕ)
    pub cuts : Cuts (open_line ++ bytes) lines rest
    pub runs : CarriesOut g h old lines text new

  -- all the bytes were read, and the texts lie with the writer and in the buffer
  pub record ReadsAll (old new : Stage D E) (bytes open_line : List ℕ) : Type 0 where
    pub text : List ℕ
    pub rest : List ℕ
    pub written : List ℕ
    pub advances : Advances old.machine open_line bytes text rest new.machine
    pub kept : HoldsOpenLine new.kept rest
    pub sent : old.pending ++ text ≡ written ++ new.pending
    pub wrote : Appends old.held new.held written

  -- a beginning of the bytes was read, and the writer took a beginning of the texts
  pub record Breaks (old new : Stage D E) (bytes open_line : List ℕ) : Type 0 where
    pub text : List ℕ
    pub rest : List ℕ
    pub front : List ℕ
    pub more : List ℕ
    pub split : bytes ≡ front ++ more
    pub advances : Advances old.machine open_line front text rest new.machine
    pub wrote : WritesBeginning old.held new.held (old.pending ++ text)

  -- the same, whatever the open line is that the buffer holds the beginning of
  abbrev pub GoesOn : Stage D E → Stage D E → List ℕ → Type 0
  GoesOn old new bytes = (open_line : List ℕ) → HoldsOpenLine old.kept open_line → ReadsAll old new bytes open_line

  abbrev pub BreaksOff : Stage D E → Stage D E → List ℕ → Type 0
  BreaksOff old new bytes = (open_line : List ℕ) → HoldsOpenLine old.kept open_line → Breaks old new bytes open_line

  -- the open line was run as the last one where it has bytes, and its text was added to the output
  pub record RunsLast (old new : Machine D E) (open_line pending more : List ℕ) : Type 0 where
    pub text : List ℕ
    pub runs : CarriesOut g h old (lines_of open_line) text new
    pub sent : more ≡ pending ++ text

  -- The reader is at its end: all lines were run, the last one with or without a newline, and the writer took all texts.
  pub record Finishes (old new : Stage D E) (bytes open_line : List ℕ) : Type 0 where
    pub text : List ℕ
    pub runs : CarriesOut g h old.machine (lines_of (open_line ++ bytes)) text new.machine
    pub wrote : Appends old.held new.held (old.pending ++ text)

  -- the complete lines were run, the rest was not, and the writer took all texts
  pub record Stops (old new : Stage D E) (bytes open_line : List ℕ) : Type 0 where
    pub text : List ℕ
    pub rest : List ℕ
    pub advances : Advances old.machine open_line bytes text rest new.machine
    pub wrote : Appends old.held new.held (old.pending ++ text)

  -- the reader is at its end: all lines were run, and the writer took a beginning of their texts
  pub record Fails (old new : Stage D E) (bytes open_line : List ℕ) : Type 0 where
    pub text : List ℕ
    pub runs : CarriesOut g h old.machine (lines_of (open_line ++ bytes)) text new.machine
    pub wrote : WritesBeginning old.held new.held (old.pending ++ text)

  -- How a run ends after these bytes, which leave this to the reader. Only a reader at its end lets an unfinished line be
  -- run.
  abbrev pub EndsSo : RunEnd → Option (List ℕ) → Stage D E → Stage D E → List ℕ → List ℕ → Type 0
  EndsSo Done left old new bytes open_line = IsAtEnd left × Finishes old new bytes open_line
  EndsSo ReadFault left old new bytes open_line = Stops old new bytes open_line
  EndsSo WriteFault left old new bytes open_line = Breaks old new bytes open_line ⊎ (IsAtEnd left × Fails old new bytes open_line)

  -- the run ends after these bytes, whatever the open line is that the buffer holds the beginning of
  abbrev pub Ends : RunEnd → Option (List ℕ) → Stage D E → Stage D E → List ℕ → Type 0
  Ends end left old new bytes = (open_line : List ℕ) → HoldsOpenLine old.kept open_line → EndsSo end left old new bytes open_line

  -- a line may be answered: the machine may go on, and there is room for its reply
  pub record MayAnswer (machine : Machine D E) (pending : List ℕ) : Type 0 where
    pub sound : IsSoundMachine g h machine
    pub room : length pending < 32768

  -- A line was answered:
  pub record AddsReply (old new : Machine D E) (line pending more : List ℕ) : Type 0 where
    -- the machine may go on,
    pub sound : IsSoundMachine g h new
    -- and the text of its reply, of 1,024 bytes at most, was added to the output.
    pub answers : (text : List ℕ) × Answers g h old line text new × (more ≡ pending ++ text)
    pub room : length more ≤ length pending + 1024

  -- Bytes of the trace were read:
  pub record TakesBytes (result : Result (Unit {0}) Writing.WriteFault) (old new : Stage D E) (bytes : List ℕ) : Type 0 where
    -- the machine may go on,
    pub sound : IsSoundMachine g h new.machine
    -- and all of them were, with room left for a reply, or the writer failed.
    pub reads : MatchResult result (λ _. GoesOn old new bytes) (λ _. BreaksOff old new bytes)
    pub room : OnOk result (length new.pending < 32768)

  -- the last line was run where it has bytes, and the machine may go on
  pub record RunsLastLine (old new : Machine D E) (kept pending more : List ℕ) : Type 0 where
    pub sound : IsSoundMachine g h new
    pub runs : (open_line : List ℕ) → HoldsOpenLine kept open_line → RunsLast old new open_line pending more

  -- the run ended with the reader, and the machine may go on
  pub record EndsWithReader (end : RunEnd) (old new : Stage D E) : Type 0 where
    pub sound : IsSoundMachine g h new.machine
    pub ends : (left : Option (List ℕ)) → IsAtEnd left → Ends end left old new []

  -- One turn of a run, whose reader had so much left before and after it:
  pub record TakesTurn (result : Option RunEnd) (had left : Option (List ℕ)) (old new : Stage D E) : Type 0 where
    -- the machine may go on,
    pub sound : IsSoundMachine g h new.machine
    -- and the bytes that came were read, with nothing pending, or the run ended so.
    pub empty : IfNone result (new.pending ≡ [])
    pub reads : (bytes : List ℕ) × Consumes had left bytes × MatchOption result (GoesOn old new bytes) (λ end. Ends end left old new bytes)

  -- All turns of a run, likewise, and how it ended.
  pub record TakesTurns (end : RunEnd) (had left : Option (List ℕ)) (old new : Stage D E) : Type 0 where
    pub sound : IsSoundMachine g h new.machine
    pub reads : (bytes : List ℕ) × Consumes had left bytes × EndsSo end left old new bytes []
