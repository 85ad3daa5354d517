-- Which sectors of swap's device a process that comes asks for.
use Rattle.vm_types.specs.declared.mode.Levels as Levels
use Rattle.lifecycle.proofs.Names.{◌≡◌, ℕ, None, ap, Ghosts, role_of, place_of, is_touched, slots_of, Core, Picture, picture_of, IsFit, ObtainsTable, KeepsBesideProcesses, Spawns, AsksNoNew, AsksSlots, AsksSlotsIf, no_new_then, no_new_held}
use Rattle.{lifecycle.proofs.Names.{no_new_taken, asks_slots_if, asks_slots_kept, asks_slots_then}, disk_model.specs.Moments.{Nothing}}

-- a frame was taken for a table, which is the root of a process that was made
pub no_new_spawned : {mode : ℕ} (old mid new : Picture mode) (pid n : ℕ) → IsFit old → ObtainsTable old mid n → Spawns mid new pid n → AsksNoNew old new None Nothing
no_new_spawned old mid new pid n fit obtains spawns =
    no_new_then old mid new None Nothing Nothing (no_new_taken old mid n fit obtains)
    (no_new_held mid new None Nothing spawns.slots (λ k holds. ap (λ t. role_of t k) spawns.frames) spawns.place spawns.touched) (λ k none. absurd none)

module _ {M : Type 0} {m : Levels.Ghosts M} {D E : Type 0} (h : Ghosts E) where
  -- the processes changed alone
  pub asks_process : {full : Type 0} (old mid new : Core D E M m) → KeepsBesideProcesses mid new → AsksSlotsIf h full old mid None Nothing → AsksSlotsIf h full old new None Nothing
  asks_process old mid new rest asks = asks_slots_kept h old mid new None Nothing (ap (λ s. s.pages) rest.swap) asks

  no_new_process : (old mid new : Core D E M m) → KeepsBesideProcesses mid new → AsksNoNew (picture_of old) (picture_of mid) None Nothing → AsksNoNew (picture_of old) (picture_of new) None Nothing
  no_new_process old mid new rest still =
      no_new_then (picture_of old) (picture_of mid) (picture_of new) None Nothing Nothing still
      (no_new_held (picture_of mid) (picture_of new) None Nothing (ap slots_of rest.swap) (λ n holds. ap (λ t. role_of t n) rest.frames) (λ p. ap (λ t. place_of t p) rest.cache)
      (λ p. ap (λ t. is_touched t p) rest.cache))
      (λ k none. absurd none)

  -- a process was made, mapped as another, its tables were linked, and then no device was asked
  pub asks_forked : {first last : Type 0} (old spawned mapped mid new : Core D E M m) → AsksSlotsIf h first old spawned None Nothing → AsksNoNew (picture_of old) (picture_of spawned) None Nothing → KeepsBesideProcesses spawned mapped
      → AsksSlotsIf h last mapped mid None Nothing → new.swap.pages ≡ mid.swap.pages → AsksSlots h old new None Nothing
  asks_forked {last = last} old spawned mapped mid new first still rest second same =
      asks_slots_kept h old mid new None Nothing same
      (asks_slots_then h last old mapped mid None Nothing Nothing (asks_slots_if h (Unit {0}) old mapped None Nothing (λ full. tt) (asks_process old spawned mapped rest first))
      (no_new_process old spawned mapped rest still) (λ full. tt) second (λ k none. absurd none))
