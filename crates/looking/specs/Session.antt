-- A trace that is run while one looks inside, as far as it has come.
use Rattle.std.specs.Prelude.{◌≡◌, ℕ, List, [], ◌∷◌, ◌++◌, true, false, if◌then◌else◌, take, Option, Result, IfOk, MatchResult, OnOk}
use Rattle.std.specs.Io.KnownBytes.{Appends}
use Rattle.disk_model.specs.declared.sector_disk.SectorDisk.{Ghosts}
use Rattle.machine.specs.declared.machine.Machine.{Machine}
use Rattle.runner.specs.Progress.{HoldsOpenLine}
use Rattle.runner.specs.Session.{Answers, CarriesOut}
use Rattle.trace_lang.specs.Lines.{Cuts}
use Rattle.looking.specs.Lines.{is_aside}

-- those of these lines that are the trace's
abbrev pub traced : List (List ℕ) → List (List ℕ)
traced [] = []
traced (line ∷ lines) = if is_aside line then traced lines else line ∷ traced lines

module _ {D E : Type 0} (g : Ghosts D) (h : Ghosts E) where
  -- A line was taken:
  pub record TakesLine (old : Machine D E) (line : List ℕ) (new : Machine D E) : Type 0 where
    -- a comment or a question leaves the machine as it is,
    pub aside : is_aside line ≡ true → new ≡ old
    -- and every other line is carried out as one of a trace.
    pub answers : is_aside line ≡ false → (text : List ℕ) × Answers g h old line text new

  -- The open line and the bytes after it were cut into lines, of which the trace's were carried out one after another, and a rest.
  pub record LooksOn (old : Machine D E) (open_line bytes rest : List ℕ) (new : Machine D E) : Type 0 where
    pub lines : List (List ℕ)
    pub cuts : Cuts (open_line ++ bytes) lines rest
    pub text : List ℕ
    pub runs : CarriesOut g h old (traced lines) text new

  -- All these bytes were taken, whatever the open line is that is kept the beginning of.
  abbrev pub TakesAll : Machine D E → List ℕ → List ℕ → Machine D E → List ℕ → Type 0
  TakesAll old kept bytes new left =
      (open_line : List ℕ) → HoldsOpenLine kept open_line → (rest : List ℕ) × LooksOn old open_line bytes rest new × HoldsOpenLine left rest

  -- A beginning of them was, as a write failed.
  abbrev pub TakesSome : Machine D E → List ℕ → List ℕ → Machine D E → Type 0
  TakesSome old kept bytes new =
      (open_line : List ℕ) → HoldsOpenLine kept open_line
      → (front more rest : List ℕ) × (bytes ≡ front ++ more) × LooksOn old open_line front rest new

  -- The reply to a line was written: as many bytes of the text as are told.
  pub record WritesReply {X : Type 0} (old : Machine D E) (line text : List ℕ) (new : Machine D E) (held left : Option (List ℕ)) (result : Result ℕ X) : Type 0 where
    pub count : ℕ
    pub answers : Answers g h old line (take count text) new
    pub counted : IfOk result (λ n. n ≡ count)
    pub wrote : OnOk result (Appends held left (take count text))
