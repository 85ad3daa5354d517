-- What faults, and the ends of runs, are told by.
use Rattle.std.specs.Prelude.{◌≡◌, ◌⊎◌, ℕ, List, Bool, true, false}
use Rattle.command_words.specs.declared.faults.WordsFault.{WordsFault}
use Rattle.command_words.specs.declared.faults.WordsFault.TheVariants.{Usage as OtherWords, OutOfMemory as NoRoom}
use Rattle.programs.specs.declared.faults.ProgramFault.{ProgramFault}
use Rattle.programs.specs.declared.faults.ProgramFault.TheVariants.{Usage, OutOfMemory, CannotOpen, ReadFailed, WriteFailed}
use Rattle.programs.specs.declared.showing.CopyFault.{CopyFault}
use Rattle.programs.specs.declared.showing.CopyFault.TheVariants.{Read as CopyRead, Write as CopyWrite}
use Rattle.programs.specs.declared.showing.ShowFault.{ShowFault}
use Rattle.programs.specs.declared.showing.ShowFault.TheVariants.{Read as ShowRead, Write as ShowWrite}
use Rattle.runner.specs.declared.engine.RunEnd.{RunEnd}
use Rattle.runner.specs.declared.engine.RunEnd.TheVariants.{Done, ReadFault, WriteFault}

-- words that a program does not take are told by 2, every other fault by 1
abbrev pub fault_status : ProgramFault → ℕ
fault_status Usage = 2
fault_status fault = 1

-- the fault of a program whose words are not taken
abbrev pub words_fault : WordsFault → ProgramFault
words_fault OtherWords = Usage
words_fault NoRoom = OutOfMemory

-- the file of this name can't be opened
abbrev pub IsUnopened : List ℕ → ProgramFault → Type 0
IsUnopened name (CannotOpen path) = path.now ≡ name
IsUnopened name fault = ⊥

-- one of the files of these names can't be opened
abbrev pub IsOneUnopened : List ℕ → List ℕ → ProgramFault → Type 0
IsOneUnopened image swap (CannotOpen path) = (path.now ≡ image) ⊎ (path.now ≡ swap)
IsOneUnopened image swap fault = ⊥

-- the fault of a run that ended so: the input failed, or the output did
abbrev pub IsEndFault : RunEnd → ProgramFault → Type 0
IsEndFault Done fault = ⊥
IsEndFault ReadFault fault = fault ≡ ReadFailed
IsEndFault WriteFault fault = fault ≡ WriteFailed

-- a trace that was read to its end is told by 3 where the machine has halted, else by 0
abbrev pub end_status : Bool → ℕ
end_status true = 3
end_status false = 0

-- what a fault of writing a file out is to who asked for the file
abbrev pub show_fault : CopyFault → ShowFault
show_fault CopyRead = ShowRead
show_fault CopyWrite = ShowWrite
