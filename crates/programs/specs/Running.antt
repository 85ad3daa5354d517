-- What comes of a trace that is run on an image.
use Rattle.std.specs.Prelude.{◌≡◌, ◌⊎◌, ℕ, Bool, false, Result, Ok, Err}
use Rattle.disk_model.specs.declared.sector_disk.SectorDisk.{Ghosts}
use Rattle.command_words.specs.declared.running.RunWords.{RunWords}
use Rattle.machine.specs.declared.boot.BootFault.{BootFault}
use Rattle.machine.specs.declared.boot.BootFault.TheVariants.{Device, BadLayout}
use Rattle.machine.specs.declared.config.Config.{Config}
use Rattle.machine.specs.declared.machine.Machine.{Machine}
use Rattle.machine.specs.Boot.{BootLeaves, BootRefuses, Boots}
use Rattle.machine.specs.Machine.{halted_of}
use Rattle.runner.specs.declared.engine.RunEnd.{RunEnd}
use Rattle.runner.specs.declared.engine.RunEnd.TheVariants.{Done, ReadFault, WriteFault}
use Rattle.runner.specs.Starting.{RunsOn}
use Rattle.runner.specs.Trace.{Streams}
use Rattle.programs.specs.declared.faults.ProgramFault.{ProgramFault}
use Rattle.programs.specs.declared.faults.ProgramFault.TheVariants.{Usage, OutOfMemory, CannotOpen, Boot, ReadFailed, WriteFailed}
use Rattle.programs.specs.Disks.{IsJustOpened}
use Rattle.programs.specs.Faults.{end_status, fault_status}

-- the size and the mode of the machine that the words ask for
abbrev pub config_of : RunWords → Config
config_of words = record { frames = words.frames; slots = words.slots; mode = words.mode }

-- what is told of a boot that gave up for this reason: an image that could not be synced is the fault of its device, whatever its length is
abbrev pub boot_told : Bool → BootFault → BootFault
boot_told false BadLayout = Device
boot_told settled fault = fault

-- the exit status that tells this outcome
abbrev pub outcome_status : Result ℕ ProgramFault → ℕ
outcome_status (Ok status) = status
outcome_status (Err fault) = fault_status fault

-- the program gave up before it opened a device, or as it did
abbrev pub IsBeforeBoot : ProgramFault → Type 0
IsBeforeBoot Usage = Unit {0}
IsBeforeBoot OutOfMemory = Unit {0}
IsBeforeBoot (CannotOpen path) = Unit {0}
IsBeforeBoot fault = ⊥

-- nothing was read, and nothing was written
abbrev pub IsUntouched : Streams → Streams → Type 0
IsUntouched before after = (after.left ≡ before.left) × (after.held ≡ before.held)

-- Whether a device could be synced as it was opened is what `settled` says.
module _ {D E : Type 0} (g : Ghosts D) (h : Ghosts E) (settled : D → Bool) where
  -- No machine of that size starts on these devices, which the fault tells:
  pub record DoesNotBoot (config : Config) (store : D) (swap : E) (fault : BootFault) : Type 0 where
    -- the boot gave up for this reason, and left this of the store's device,
    pub why : BootFault
    pub left : D
    pub refuses : BootRefuses g config (h.sector_count swap) store why left
    pub leaves : BootLeaves g store left
    -- and that is the fault, but where the image could not be synced.
    pub told : fault ≡ boot_told (settled left) why

  -- A machine of that size was booted on these devices and ran the trace until this end came.
  pub record RunsUntil (config : Config) (store : D) (swap : E) (before after : Streams) (end : RunEnd) : Type 0 where
    pub machine : Machine D E
    pub runs : RunsOn g h config store swap end machine before after

  -- It ran the trace to its end,
  pub record RunsToEnd (config : Config) (store : D) (swap : E) (before after : Streams) (status : ℕ) : Type 0 where
    pub machine : Machine D E
    pub runs : RunsOn g h config store swap Done machine before after
    -- and the status says whether the machine halted.
    pub told : status ≡ end_status (halted_of machine)

  -- what comes of a run of a machine of that size over these devices
  abbrev pub ComesTo : Config → D → E → Streams → Streams → Result ℕ ProgramFault → Type 0
  ComesTo config store swap before after (Ok status) = RunsToEnd config store swap before after status
  ComesTo config store swap before after (Err ReadFailed) = RunsUntil config store swap before after ReadFault
  ComesTo config store swap before after (Err WriteFailed) = RunsUntil config store swap before after WriteFault
  ComesTo config store swap before after (Err (Boot fault)) = DoesNotBoot config store swap fault × IsUntouched before after
  ComesTo config store swap before after (Err fault) = ⊥

  -- The trace is run by the words of the program:
  pub record RunsByWords (before after : Streams) (outcome : Result ℕ ProgramFault) : Type 0 where
    -- these ask for a machine of this size,
    pub words : RunWords
    -- the devices in the files that they name were just opened,
    pub store : D
    pub swap : E
    pub fresh : IsJustOpened g store
    pub swap_fresh : IsJustOpened h swap
    -- and this comes of the run over them.
    pub comes : ComesTo (config_of words) store swap before after outcome

  -- The program gives up before there is a device: it takes other words, memory is wanting or a file can't be opened,
  pub record GivesUpFirst (before after : Streams) (outcome : Result ℕ ProgramFault) : Type 0 where
    pub fault : ProgramFault
    pub is : outcome ≡ Err fault
    pub early : IsBeforeBoot fault
    -- and nothing is read or written.
    pub untouched : IsUntouched before after

  -- what comes of the words and the trace
  abbrev pub EndsRun : Streams → Streams → Result ℕ ProgramFault → Type 0
  EndsRun before after outcome = RunsByWords before after outcome ⊎ GivesUpFirst before after outcome

  -- The exit status tells what came of the words and the trace.
  pub record ExitsWith (before after : Streams) (status : ℕ) : Type 0 where
    pub outcome : Result ℕ ProgramFault
    pub ends : EndsRun before after outcome
    pub told : status ≡ outcome_status outcome

  -- A machine starts on devices that were just opened:
  pub record BootsOnOpened (machine : Machine D E) : Type 0 where
    pub store : D
    pub swap : E
    pub fresh : IsJustOpened g store
    pub swap_fresh : IsJustOpened h swap
    -- it shows the files of the image.
    pub boots : Boots g h store machine

  -- no machine starts by these words: a file of theirs can't be opened, or the boot on the devices in them fails
  abbrev pub IsUnstarted : RunWords → ProgramFault → Type 0
  IsUnstarted words (CannotOpen path) = (path.now ≡ words.image.now) ⊎ (path.now ≡ words.swap.now)
  IsUnstarted words (Boot fault) = (store : D) × (swap : E) × IsJustOpened g store × IsJustOpened h swap × DoesNotBoot (config_of words) store swap fault
  IsUnstarted words fault = ⊥
