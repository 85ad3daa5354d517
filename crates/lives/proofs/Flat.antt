-- A chain of commands as a run of the flat model.
use Rattle.{std.proofs.Common.{ℕ, zero, suc, ◌≡◌, List, [], ◌∷◌, refl, sym, subst}, disk_model.specs.declared.sector_disk.SectorDisk.{Ghosts}, vm_types.specs.{Prefix.{Event}, Run.{Run, Step}, Stalls.{Causes}, State.{State}}}
use Rattle.{vm_types.specs.declared.{command.Command.{Command}, reply.Reply.{Reply}}, machine.{proofs.Face.{face}, specs.{Chain.{Chain, after}, declared.machine.Machine.{Machine}}}, lives.specs.Flat.{machine_causes, causes_in}}

-- a run whose commands are counted from one number on, or from the next
one_later : (came : ℕ → Causes) (k : ℕ) (s : State) (commands : List Command) (replies : List Reply) (t : State)
    → Run (λ j. came (suc j)) k s commands replies t → Run came (suc k) s commands replies t
one_later came k s [] [] t run = run
one_later came k s (x ∷ xs) (r ∷ rs) t run = (run.0, run.1, one_later came (suc k) run.0 xs rs t run.2)
one_later came k s commands replies t run = absurd run

module _ {D E : Type 0} (g : Ghosts D) (h : Ghosts E) where
  at_start : (old : Machine D E) (s : State) (commands : List Command) (replies : List Reply) (events : List Event) (new : Machine D E) (t : State)
      → (c : Chain g h old s commands replies events new t) → after g h old s commands replies events new t c zero ≡ old
  at_start old s [] replies events new t c = refl
  at_start old s (x ∷ xs) replies events new t c = refl

  pub flat : (old : Machine D E) (s : State) (commands : List Command) (replies : List Reply) (events : List Event) (new : Machine D E) (t : State)
      → (c : Chain g h old s commands replies events new t) → Run (causes_in g h old s commands replies events new t c) 0 s commands replies t
  flat old s [] [] [] new t c = c.1
  flat old s (x ∷ xs) (r ∷ rs) (e ∷ es) new t c = (
    c.1,
    subst (λ (m : Machine D E). Step (machine_causes g h old m x) s x r c.1) (sym (at_start c.0 c.1 xs rs es new t c.4)) (face g h old c.0 s c.1 x r c.3).step,
    one_later (causes_in g h old s (x ∷ xs) (r ∷ rs) (e ∷ es) new t c) 0 c.1 xs rs t (flat c.0 c.1 xs rs es new t c.4),
  )
  flat old s commands replies es new t c = absurd c
