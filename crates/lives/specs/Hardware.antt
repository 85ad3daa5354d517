-- Lives of machines on hardware.
use Rattle.std.specs.Prelude.{ℕ, ◌≡◌, List}
use Rattle.disk_model.specs.declared.sector_disk.SectorDisk.{Ghosts}
use Rattle.vm_types.specs.declared.command.Command.{Command}
use Rattle.vm_types.specs.declared.reply.Reply.{Reply}
use Rattle.machine.specs.Chain.{after}
use Rattle.machine.specs.Hardware.{HardwareSteps, machine_after}
use Rattle.machine.specs.declared.machine.Machine.{Machine}
use Rattle.lives.specs.Lives.{RanSince}

module _ {D E : Type 0} (g : Ghosts D) (h : Ghosts E) where
  -- The steps of the machine are a life of the store on which it booted, whose machines are those of the steps.
  pub record LivesThrough (store : D) (old new : Machine D E) (commands : List Command) (replies : List Reply) (steps : HardwareSteps g h old commands replies new) : Type 0 where
    pub life : RanSince g h store new commands replies
    pub through : (k : ℕ)
        → after g h life.old life.boots.state commands replies life.runs.events new life.runs.last life.runs.chain k ≡ machine_after g h old commands replies new steps k
