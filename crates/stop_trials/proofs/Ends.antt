use Rattle.std.proofs.Common.{ℕ, ◌≡◌, List, Vec, Option, Some, None, MatchOption, IsSomeAnd, ap, subst, sym}
use Rattle.std.specs.declared.alloc.Global.{Global}
use Rattle.disk_model.specs.declared.sector_disk.SectorDisk.{Ghosts}
use Rattle.disk_model.specs.declared.sim_disk.SimDisk.{SimDisk}
use Rattle.stop_trials.specs.declared.runs.Setting.{Setting}
use Rattle.stop_trials.specs.declared.stopping.StoppingDisk.{StoppingDisk}
use Rattle.stop_trials.specs.declared.trials.Summary.{Summary}
use Rattle.stop_trials.specs.Lines.{AreCommandsOf}
use Rattle.stop_trials.specs.Trials.{AreAllTried}
use Rattle.vm_types.specs.declared.command.Command.{Command}

-- an option that is given over number by number, each as it is, is the same
pub same_option : {P : ℕ → ℕ → Type 0} → ((x y : ℕ) → P x y → y ≡ x) → (o r : Option ℕ) → MatchOption o (r ≡ None) (λ x. IsSomeAnd r (P x)) → r ≡ o
same_option same None r told = told
same_option same (Some x) (Some y) told = ap Some (same x y told)
same_option same (Some x) None told = absurd told

-- and trials of the multiples of a number are those of its equal
pub tried_at : (g : Ghosts StoppingDisk) (h : Ghosts SimDisk) (setting : Setting) (states : List (Vec ℕ Global)) (summary : Summary) (a b : ℕ) → a ≡ b
    → AreAllTried g h setting states a summary → AreAllTried g h setting states b summary
tried_at g h setting states summary a b same tried = subst (λ every. AreAllTried g h setting states every summary) same tried

-- the commands of lines that are these are those of these
pub commands_at : (given lines : List (List ℕ)) (a b : List Command) → given ≡ lines → a ≡ b → AreCommandsOf given b → AreCommandsOf lines a
commands_at given lines a b same equal are = subst (λ (l : List (List ℕ)). AreCommandsOf l a) same (subst (AreCommandsOf given) (sym equal) are)
