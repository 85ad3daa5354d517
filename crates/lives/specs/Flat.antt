-- A chain of commands on a machine as a run of the flat model.
use Rattle.std.specs.Prelude.{ℕ, zero, suc, ◌+◌, ◌≡◌, ◌<◌, List, [], ◌∷◌}
use Rattle.disk_model.specs.declared.sector_disk.SectorDisk.{Ghosts}
use Rattle.vm_types.specs.declared.command.Command.{Command}
use Rattle.vm_types.specs.declared.command.Command.TheVariants.{PastFaults}
use Rattle.vm_types.specs.declared.reply.Reply.{Reply}
use Rattle.vm_types.specs.Prefix.{Event}
use Rattle.vm_types.specs.Stalls.{Causes}
use Rattle.vm_types.specs.State.{State}
use Rattle.machine.specs.Chain.{Chain, after}
use Rattle.machine.specs.Machine.{store_of, swap_of, refused_of, LacksRoom}
use Rattle.machine.specs.declared.machine.Machine.{Machine}

-- the command after the first k of them; past the last one a command that does nothing
abbrev pub command_at : List Command → ℕ → Command
command_at [] k = PastFaults
command_at (command ∷ commands) zero = command
command_at (command ∷ commands) (suc k) = command_at commands k

module _ {D E : Type 0} (g : Ghosts D) (h : Ghosts E) where
  -- what came to pass between two machines in a command: a device failed, a request for a frame was refused, or the store had no room for what an msync takes
  abbrev pub machine_causes : Machine D E → Machine D E → Command → Causes
  machine_causes old new command = record {
    store = g.failures (store_of old) < g.failures (store_of new);
    swap = h.failures (swap_of old) < h.failures (swap_of new);
    refused = refused_of new ≡ refused_of old + 1;
    room = LacksRoom old command;
  }

  -- what came to pass in each command of a chain: between the machines after the first k of them and after the next one
  abbrev pub causes_in : (old : Machine D E) (s : State) (commands : List Command) (replies : List Reply) (events : List Event) (new : Machine D E) (t : State)
      → Chain g h old s commands replies events new t → ℕ → Causes
  causes_in old s commands replies events new t chain k =
      machine_causes (after g h old s commands replies events new t chain k) (after g h old s commands replies events new t chain (suc k)) (command_at commands k)
