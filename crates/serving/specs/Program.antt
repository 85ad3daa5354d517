-- What comes of the words of the program, and of a kernel's requests.
use Rattle.std.specs.Prelude.{◌≡◌, ◌⊎◌, ℕ, Bool, Result, Ok, Err}
use Rattle.disk_model.specs.declared.sector_disk.SectorDisk.{Ghosts}
use Rattle.command_words.specs.declared.running.RunWords.{RunWords}
use Rattle.machine.specs.declared.machine.Machine.{Machine}
use Rattle.machine.specs.Boot.{HasRoom}
use Rattle.machine.specs.Machine.{halted_of}
use Rattle.runner.specs.declared.engine.RunEnd.{RunEnd}
use Rattle.runner.specs.declared.engine.RunEnd.TheVariants.{Done, ReadFault, WriteFault}
use Rattle.runner.specs.Trace.{Streams}
use Rattle.programs.specs.declared.faults.ProgramFault.{ProgramFault}
use Rattle.programs.specs.declared.faults.ProgramFault.TheVariants.{ReadFailed, WriteFailed}
use Rattle.programs.specs.Faults.{end_status}
use Rattle.programs.specs.Running.{BootsOnOpened, GivesUpFirst, IsUnstarted, IsUntouched, config_of, outcome_status}
use Rattle.serving.specs.Serving.{ServesUntil}

module _ {D E : Type 0} (g : Ghosts D) (h : Ghosts E) (settled : D → Bool) where
  -- A machine of the size that these words ask for was booted on devices just opened, and served requests until this end.
  pub record ServesBooted (words : RunWords) (end : RunEnd) (new : Machine D E) (before after : Streams) : Type 0 where
    pub old : Machine D E
    pub boots : BootsOnOpened g h settled old
    pub room : HasRoom old (config_of words)
    pub serves : ServesUntil g h end old new before after

  -- What comes of these words: the requests were served to their end, and the status says whether the machine has halted, or the reader or the writer
  -- failed, or no machine started, and nothing was read or written.
  abbrev pub ComesOfWords : RunWords → Streams → Streams → Result ℕ ProgramFault → Type 0
  ComesOfWords words before after (Ok status) = (machine : Machine D E) × ServesBooted words Done machine before after × (status ≡ end_status (halted_of machine))
  ComesOfWords words before after (Err ReadFailed) = (machine : Machine D E) × ServesBooted words ReadFault machine before after
  ComesOfWords words before after (Err WriteFailed) = (machine : Machine D E) × ServesBooted words WriteFault machine before after
  ComesOfWords words before after (Err fault) = IsUnstarted g h settled words fault × IsUntouched before after

  abbrev pub EndsServing : Streams → Streams → Result ℕ ProgramFault → Type 0
  EndsServing before after outcome = ((words : RunWords) × ComesOfWords words before after outcome) ⊎ GivesUpFirst g h settled before after outcome

  -- The exit status tells what came of the words and the requests.
  pub record EndsWithStatus (before after : Streams) (status : ℕ) : Type 0 where
    pub outcome : Result ℕ ProgramFault
    pub ends : EndsServing before after outcome
    pub told : status ≡ outcome_status outcome
