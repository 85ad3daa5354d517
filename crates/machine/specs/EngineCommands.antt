-- What a command keeps whatever comes of it, and what it does whatever the devices do, in one mode.
use Rattle.vm_types.specs.declared.mode.Levels as Levels
use Rattle.disk_model.specs.declared.sector_disk.SectorDisk.{Ghosts}
use Rattle.fault.specs.Changes.{KeepsRoom}
use Rattle.residency.specs.Picture.{picture_of}
use Rattle.spaces.specs.Calls.{IsCaused}
use Rattle.vm_types.specs.declared.command.Command.{Command}
use Rattle.vm_types.specs.declared.reply.Reply.{Reply}
use Rattle.vm_types.specs.State.{State}
use Rattle.machine.specs.Accesses.{Accesses}
use Rattle.machine.specs.Engine.{EngineMayRead, EngineMeets, EngineShows, IsSoundEngine, KeepsIfDenied}
use Rattle.machine.specs.declared.engine.Engine.{Engine}
use Rattle.sized_stores.specs.Store.{disk_of}

module _ {M : Type 0} {levels : Levels.Ghosts M} {D E : Type 0} (g : Ghosts D) (h : Ghosts E) where
  -- Whatever comes of a command,
  pub record EngineKeeps (old new : Engine D E M levels) : Type 0 where
    -- a store that keeps the disk model after it kept the model before it,
    pub kept : g.keeps_model (disk_of new.core.store) → g.keeps_model (disk_of old.core.store)
    -- and so did swap,
    pub swap_kept : h.keeps_model new.core.swap.pages.disk → h.keeps_model old.core.swap.pages.disk
    -- and there are as many frames and slots as there were.
    pub room : KeepsRoom (picture_of old.core) (picture_of new.core)

  -- Whatever the devices do, a command does as its reply tells:
  pub record EngineDoes (old new : Engine D E M levels) (command : Command) (reply : Reply) : Type 0 where
    -- the engine may go on,
    pub sound : IsSoundEngine g h new
    -- its devices and its room are kept,
    pub keeps : EngineKeeps old new
    -- what the reply names came to pass,
    pub caused : IsCaused g h old.core new.core reply
    -- no more was asked of memory and the devices than the command asks for, and what it is to leave was left,
    pub accesses : Accesses g h old.core new.core command reply
    -- and where it was not carried out, memory and both devices are as they were.
    pub denied : KeepsIfDenied old new command reply

  -- A command is carried out:
  pub record EngineCarriesOut (old new : Engine D E M levels) (command : Command) (reply : Reply) : Type 0 where
    -- it does as its reply tells, whatever the devices do,
    pub does : EngineDoes old new command reply
    -- and as the flat model does, in whatever state the engine is, as long as the devices that it reads keep the disk model.
    pub meets : (s : State) → EngineShows g h old s → EngineMayRead g h new s command → (t : State) × EngineMeets g h old new s t command reply
