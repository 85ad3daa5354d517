-- What a command keeps whatever comes of it, and what it and commands in a row do whatever the devices do, in either mode.
use Rattle.std.specs.Prelude.{List}
use Rattle.disk_model.specs.declared.sector_disk.SectorDisk.{Ghosts}
use Rattle.vm_types.specs.declared.command.Command.{Command}
use Rattle.vm_types.specs.declared.reply.Reply.{Reply}
use Rattle.machine.specs.Chain.{Caused}
use Rattle.machine.specs.Counts.{Counts}
use Rattle.machine.specs.Accesses.{Accesses}
use Rattle.machine.specs.Engine.{KeepsIfDenied}
use Rattle.machine.specs.Machine.{store_of, swap_of, InSameMode, IsCausedBetween, IsSoundMachine, KeepsSizes}
use Rattle.machine.specs.declared.machine.Machine.{Machine}

module _ {D E : Type 0} (g : Ghosts D) (h : Ghosts E) where
  -- Whatever comes of a command,
  pub record KeepsModelsAndRoom (old new : Machine D E) : Type 0 where
    -- a store that keeps the disk model after it kept the model before it,
    pub kept : g.keeps_model (store_of new) → g.keeps_model (store_of old)
    -- and so did swap,
    pub swap_kept : h.keeps_model (swap_of new) → h.keeps_model (swap_of old)
    -- and there are as many frames and slots as there were, and the mode is the same.
    pub room : KeepsSizes old new

  -- Whatever the devices do, a command does as its reply tells:
  pub record DoesAsTold (old new : Machine D E) (command : Command) (reply : Reply) : Type 0 where
    -- what the reply names came to pass,
    pub caused : IsCausedBetween g h old new reply
    -- no more was asked of memory and the devices than the command asks for, and what it is to leave was left,
    pub accesses : InSameMode (λ M levels before after. Accesses g h before.core after.core command reply) old new
    -- and where it was not carried out, memory and both devices are as they were.
    pub denied : InSameMode (λ M levels before after. KeepsIfDenied before after command reply) old new

  -- Whatever the devices do, each of the commands in a row does as its reply tells:
  pub record DoesEachAsTold (old new : Machine D E) (replies : List Reply) : Type 0 where
    -- the machine may go on,
    pub sound : IsSoundMachine g h new
    -- its devices, its room and its mode are kept,
    pub keeps : KeepsModelsAndRoom old new
    -- what the reply names came to pass between the machine before the command and the one after it,
    pub caused : Caused g h old replies new
    -- and devices failed and frames were refused as often as the replies tell.
    pub counts : Counts g h old new replies
