-- Accesses that hardware makes by itself on the bytes of frames, where the tables grant them, and commands and such accesses in a row.
-- RISC-V Privileged Specification, "Virtual Address Translation Process", with Svade: hardware sets neither A nor D.
use Rattle.vm_types.specs.declared.mode.Levels as Levels
use Rattle.std.specs.Prelude.{ℕ, zero, suc, ◌≡◌, ◌≢◌, ◌⊎◌, ◌/◌, ◌%◌, false, List, [], ◌∷◌, Some, Ok}
use Rattle.disk_model.specs.declared.sector_disk.SectorDisk.{Ghosts}
use Rattle.frames.specs.declared.role.Role.TheVariants.{Table}
use Rattle.frames.specs.FrameTable.{IsHeld, bytes_of, role_of}
use Rattle.sv39_walk.specs.Walk.{translated}
use Rattle.residency.specs.Picture.{Picture, picture_of, entry}
use Rattle.fault.specs.Chances.{AreAllMarkedFor, WantsOneFrame}
use Rattle.residency.specs.Chances.{KeepsButA}
use Rattle.spaces.specs.Accesses.{WritesNumber}
use Rattle.vm_types.specs.Access.{loaded}
use Rattle.vm_types.specs.Limits.{top_level}
use Rattle.vm_types.specs.State.{State, IsRunning}
use Rattle.vm_types.specs.Width.{byte_count}
use Rattle.vm_types.specs.declared.access.Access.{Access}
use Rattle.vm_types.specs.declared.access.Access.TheVariants as Kinds
use Rattle.vm_types.specs.declared.access.StoredValue.{StoredValue}
use Rattle.vm_types.specs.declared.command.Command.{Command}
use Rattle.vm_types.specs.declared.command.Command.TheVariants.{Load, Store, Fetch}
use Rattle.vm_types.specs.declared.number.Phys.{Phys}
use Rattle.vm_types.specs.declared.reply.Reply.{Reply}
use Rattle.vm_types.specs.declared.reply.Reply.TheVariants.{Done, Value}
use Rattle.vm_types.specs.declared.width.Width.{Width}
use Rattle.vm_types.specs.declared.width.Width.TheVariants.{Four}
use Rattle.machine.specs.Chain.{Runs, after}
use Rattle.machine.specs.Commands.{DoesAsTold, KeepsModelsAndRoom}
use Rattle.machine.specs.Machine.{InMode, InSameMode, IsReadable, IsSoundMachine, Meets, Shows}
use Rattle.machine.specs.Tidy.{IsTidy}
use Rattle.machine.specs.declared.engine.Engine.{Engine}
use Rattle.machine.specs.declared.machine.Machine.{Machine}

-- The tables grant an access of a process: its address is a multiple of its width, and the walk from the process's root ends at that place.
module _ {mode : ℕ} where
  pub record IsGranted (c : Picture mode) (pid addr : ℕ) (width : Width) (access : Access) (place : Phys) : Type 0 where
    pub aligned : addr % byte_count width ≡ 0
    pub root : ℕ
    pub lives : c.root pid ≡ Some root
    pub walk : translated (top_level mode) c.frames root addr access ≡ Ok place

-- Every other page that the tables grant to an access keeps its entry but for A, unless that is so.
module _ {mode : ℕ} where
  pub record KeepsGranted (old new : Picture mode) (pid page : ℕ) (unless : Type 0) : Type 0 where
    pub each : (q addr : ℕ) (width : Width) (access : Access) (place : Phys) → IsGranted old q addr width access place → (q ≢ pid) ⊎ (addr / 4096 ≢ page)
        → KeepsButA (entry old q (addr / 4096)) (entry new q (addr / 4096)) ⊎ unless

-- What hardware has kept of the tables since its last fence is still so:
module _ {mode : ℕ} where
  pub record KeepsWalks (old new : Picture mode) : Type 0 where
    -- each process has its root,
    pub root : (pid : ℕ) → new.root pid ≡ old.root pid
    -- each table its bytes,
    pub tables : (n : ℕ) → role_of old.frames n ≡ Table → bytes_of new.frames n ≡ bytes_of old.frames n
    -- and each walk from a root ends as it did, at the same place or with the same fault.
    pub walks : (pid root addr : ℕ) (access : Access) → old.root pid ≡ Some root
        → translated (top_level mode) new.frames root addr access ≡ translated (top_level mode) old.frames root addr access

module _ {M : Type 0} {levels : Levels.Ghosts M} {D E : Type 0} where
  -- While no msync has failed, hardware reads a number at the place that the tables grant, and nothing changes.
  pub record HardwareReads (old new : Engine D E M levels) (pid addr : ℕ) (width : Width) (access : Access) (reply : Reply) : Type 0 where
    pub runs : old.halted ≡ false
    pub place : Phys
    pub granted : IsGranted (picture_of old.core) pid addr width access place
    pub value : reply ≡ Value width (loaded (bytes_of old.core.frames (place.0 / 4096)) (place.0 % 4096) (byte_count width))
    pub same : new ≡ old

  -- Or it writes a number there, and nothing else changes.
  pub record HardwareWrites (old new : Engine D E M levels) (pid addr : ℕ) (stored : StoredValue) (reply : Reply) : Type 0 where
    pub runs : old.halted ≡ false
    pub place : Phys
    pub granted : IsGranted (picture_of old.core) pid addr stored.width Kinds.Store place
    pub done : reply ≡ Done
    pub writes : WritesNumber old.core new.core (place.0 / 4096) (place.0 % 4096) stored
    pub halted : new.halted ≡ old.halted
    pub past : new.past ≡ old.past
    pub room : new.sync_room ≡ old.sync_room

  -- hardware makes the access of that command, with what it read as the reply; it carries out no other command
  abbrev pub HardwareMakes : Engine D E M levels → Engine D E M levels → Command → Reply → Type 0
  HardwareMakes old new (Load pid addr width) reply = HardwareReads old new pid addr width Kinds.Load reply
  HardwareMakes old new (Fetch pid addr) reply = HardwareReads old new pid addr Four Kinds.Fetch reply
  HardwareMakes old new (Store pid addr stored) reply = HardwareWrites old new pid addr stored reply
  HardwareMakes old new command reply = ⊥

module _ {D E : Type 0} where
  -- the same of a machine, whatever its mode
  abbrev pub IsMadeByHardware : Machine D E → Machine D E → Command → Reply → Type 0
  IsMadeByHardware old new command reply = InSameMode (λ M levels before after. HardwareMakes before after command reply) old new

  -- the tables of a machine grant the access at that place
  abbrev pub IsGrantedBy : Machine D E → ℕ → ℕ → Width → Access → Phys → Type 0
  IsGrantedBy m pid addr width access place = InMode (λ M levels engine. IsGranted (picture_of engine.core) pid addr width access place) m

  -- Where an access to that page of a process wants one frame at most, each page that the tables granted has its second chance.
  abbrev pub SparesGranted : Machine D E → Machine D E → ℕ → ℕ → Access → Type 0
  SparesGranted old new pid page access = InSameMode (λ M levels before after. WantsOneFrame (picture_of before.core) pid page access
      → KeepsGranted (picture_of before.core) (picture_of after.core) pid page (AreAllMarkedFor (picture_of before.core) pid page access)) old new

  -- frame n was handed out, and is no table
  abbrev pub IsBesideTables : Machine D E → ℕ → Type 0
  IsBesideTables m n = InMode (λ M levels engine. IsHeld engine.core.frames n × (role_of engine.core.frames n ≢ Table)) m

  -- each address of each process is translated alike, by the same tables
  abbrev pub TranslatesAlike : Machine D E → Machine D E → Type 0
  TranslatesAlike old new = InSameMode (λ M levels before after. KeepsWalks (picture_of before.core) (picture_of after.core)) old new

module _ {D E : Type 0} (g : Ghosts D) (h : Ghosts E) where
  -- The machine takes a step, which is all that `Machine::step` promises of a command and its reply:
  pub record TakesStep (old new : Machine D E) (command : Command) (reply : Reply) : Type 0 where
    -- the machine may go on,
    pub sound : IsSoundMachine g h new
    -- its devices, its room and its mode are kept,
    pub keeps : KeepsModelsAndRoom g h old new
    -- the command does as its reply tells, whatever the devices do,
    pub does : DoesAsTold g h old new command reply
    -- and as the flat model does, in whatever state the machine is, as long as the devices that it reads keep the disk model,
    pub meets : (s : State) → Shows g h old s → IsReadable g h new s command → (t : State) × Meets g h old new s t command reply
    -- and no bytes are kept of shared anonymous memory that no process has.
    pub tidy : (s : State) → Shows g h new s → IsRunning s → IsTidy s

  -- `step` carries the command out, or hardware makes its access by itself.
  abbrev pub HardwareStep : Machine D E → Machine D E → Command → Reply → Type 0
  HardwareStep old new command reply = TakesStep old new command reply ⊎ IsMadeByHardware old new command reply

  -- steps in a row
  abbrev pub HardwareSteps : Machine D E → List Command → List Reply → Machine D E → Type 0
  HardwareSteps old [] [] new = new ≡ old
  HardwareSteps old (command ∷ commands) (reply ∷ replies) new =
      (mid : Machine D E) × HardwareStep old mid command reply × HardwareSteps mid commands replies new
  HardwareSteps old [] (reply ∷ replies) new = ⊥
  HardwareSteps old (command ∷ commands) [] new = ⊥

  -- the machine after the first k of them
  abbrev pub machine_after : (old : Machine D E) (commands : List Command) (replies : List Reply) (new : Machine D E) → HardwareSteps old commands replies new → ℕ → Machine D E
  machine_after old [] replies new steps k = old
  machine_after old (command ∷ commands) replies new steps zero = old
  machine_after old (command ∷ commands) [] new steps (suc k) = old
  machine_after old (command ∷ commands) (reply ∷ replies) new steps (suc k) = machine_after steps.0 commands replies new steps.2 k

  -- The steps are a run of their commands, and its machines are those of the steps.
  pub record RunsThrough (old new : Machine D E) (commands : List Command) (replies : List Reply) (steps : HardwareSteps old commands replies new) (s : State) : Type 0 where
    pub runs : Runs g h old new commands replies s
    pub through : (k : ℕ) → after g h old s commands replies runs.events new runs.last runs.chain k ≡ machine_after old commands replies new steps k
