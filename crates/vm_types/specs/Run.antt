-- The steps of the flat machine. It may choose when memory or a device is wanting, and nowhere else.
use Rattle.std.specs.Prelude.{ℕ, suc, ◌≡◌, true, List, [], ◌∷◌, Some}
use Rattle.vm_types.specs.declared.command.Command.{Command}
use Rattle.vm_types.specs.declared.refusal.Errno.TheVariants.{EIO, ENOSPC}
use Rattle.vm_types.specs.declared.refusal.Stall.{Stall}
use Rattle.vm_types.specs.declared.reply.Reply.{Reply}
use Rattle.vm_types.specs.declared.reply.Reply.TheVariants.{Refused, Stalled, Halted}
use Rattle.vm_types.specs.Stalls.{Causes, MayStall}
use Rattle.vm_types.specs.State.{State, IsRunning, halted}
use Rattle.vm_types.specs.Step.{outcome, commits, commits_lengths, noted}
use Rattle.vm_types.specs.Files.{Contents}

-- From s the machine may give this reply to the command and go on to t.
pub data Step (causes : Causes) (s : State) (command : Command) (reply : Reply) (t : State) : Type 0 where
  -- the reply and state of the call's row, with the fault of an access put into the history
  Answers : IsRunning s → reply ≡ (outcome s command).reply → t ≡ noted command reply (outcome s command).state → Step causes s command reply t
  -- the commit of an msync failed with the store: what it leaves is before it or after it
  Fails : (after : Contents) → IsRunning s → commits s command ≡ Some after → causes.store
      → reply ≡ Refused EIO → t ≡ halted s after → Step causes s command reply t
  -- the store has no room for the lengths and pages that an msync would make durable: nothing was done
  Lacks : IsRunning s → commits_lengths s command ≡ true → causes.room → reply ≡ Refused ENOSPC → t ≡ s → Step causes s command reply t
  -- nothing was done
  Stalls : (stall : Stall) → IsRunning s → MayStall causes s command stall → reply ≡ Stalled stall → t ≡ s → Step causes s command reply t
  -- the machine has halted
  Stays : (ends : List Contents) → s.ends ≡ Some ends → reply ≡ Halted → t ≡ s → Step causes s command reply t

-- One step after another, whatever came to pass in each.
abbrev pub Run : (ℕ → Causes) → ℕ → State → List Command → List Reply → State → Type 0
Run causes k s [] [] t = t ≡ s
Run causes k s (command ∷ commands) (reply ∷ replies) t =
    (mid : State) × Step (causes k) s command reply mid × Run causes (suc k) mid commands replies t
Run causes k s [] (reply ∷ replies) t = ⊥
Run causes k s (command ∷ commands) [] t = ⊥
