-- The second chance that an access gives other pages.
use Rattle.machine.proofs.Names.{ℕ, ◌≡◌, ◌/◌, true, false, sym, ◌∙◌, refl, Ghosts, Access, StoredValue, Load, Store, Fetch, Done, Width, picture_of}
use Rattle.machine.proofs.HardwareWalks.{user_walked}
use Rattle.fault.{proofs.Ready.{answer-places, walk_entry}, specs.Chances.{GivesOthersChance}}
use Rattle.frames.specs.FrameTable.{frame_count}
use Rattle.memory.proofs.Leaves.{is_page}
use Rattle.residency.specs.{Leaves.{concerns}, Parts.{IsFit}, Picture.{Picture, entry}, declared.leaves.Change.TheVariants.{ClearAccessed}}
use Rattle.std.proofs.lemmas.Bool.{and_from}
use Rattle.vm_types.specs.declared.{number.Phys.{Phys}, reply.Reply.TheVariants.{Value}, width.Width.TheVariants.{Four}}
use Rattle.vm_types.specs.declared.access.Access.TheVariants as Kinds
use Rattle.machine.specs.{Hardware.{SparesGranted, IsGranted, KeepsGranted, TakesStep}, Machine.{halted_of, IsSoundMachine}, declared.machine.Machine.{Machine, TheVariants.{Sv39, Sv48}}}

-- the entry of a page that the tables grant has A
module _ {mode : ℕ} where
  granted_marked : (c : Picture mode) (pid addr : ℕ) (width : Width) (access : Access) (place : Phys) → IsFit c → IsGranted c pid addr width access place → concerns ClearAccessed (entry c pid (addr / 4096)) ≡ true
  granted_marked c pid addr width access place fit is =
      let user = user_walked c pid is.root addr access place fit is.lives is.walk in
      let places = answer-places (frame_count c.frames) addr access (entry c pid (addr / 4096)) place (sym (walk_entry c pid is.root addr access fit is.lives user) ∙ is.walk) in
      and_from _ _ places.opens.valid places.opens.accessed

  granted_kept : (old new : Picture mode) (pid page : ℕ) (unless : Type 0) → IsFit old → GivesOthersChance old new pid page unless → KeepsGranted old new pid page unless
  granted_kept old new pid page unless fit gives = record {
    each = λ q addr width access place is other. gives.each q (addr / 4096) (is_page mode (addr / 4096) (user_walked old q is.root addr access place fit is.lives is.walk)) other (granted_marked old q addr width access place fit is);
  }

module _ {D E : Type 0} (g : Ghosts D) (h : Ghosts E) where
  pub load_chance : (old new : Machine D E) (pid addr n : ℕ) (width : Width) → IsSoundMachine g h old → halted_of old ≡ false → TakesStep g h old new (Load pid addr width) (Value width n) → SparesGranted old new pid (addr / 4096) Kinds.Load
  load_chance (Sv39 old) (Sv39 new) pid addr n width sound runs done = λ one. granted_kept (picture_of old.core) (picture_of new.core) pid (addr / 4096) _ (sound.going runs).fit (done.does.accesses.0.chance refl (λ stall e. cc) one)
  load_chance (Sv48 old) (Sv48 new) pid addr n width sound runs done = λ one. granted_kept (picture_of old.core) (picture_of new.core) pid (addr / 4096) _ (sound.going runs).fit (done.does.accesses.0.chance refl (λ stall e. cc) one)
  load_chance old new pid addr n width sound runs done = absurd done.does.accesses

  pub fetch_chance : (old new : Machine D E) (pid addr n : ℕ) → IsSoundMachine g h old → halted_of old ≡ false → TakesStep g h old new (Fetch pid addr) (Value Four n) → SparesGranted old new pid (addr / 4096) Kinds.Fetch
  fetch_chance (Sv39 old) (Sv39 new) pid addr n sound runs done = λ one. granted_kept (picture_of old.core) (picture_of new.core) pid (addr / 4096) _ (sound.going runs).fit (done.does.accesses.0.chance refl (λ stall e. cc) one)
  fetch_chance (Sv48 old) (Sv48 new) pid addr n sound runs done = λ one. granted_kept (picture_of old.core) (picture_of new.core) pid (addr / 4096) _ (sound.going runs).fit (done.does.accesses.0.chance refl (λ stall e. cc) one)
  fetch_chance old new pid addr n sound runs done = absurd done.does.accesses

  pub store_chance : (old new : Machine D E) (pid addr : ℕ) (stored : StoredValue) → IsSoundMachine g h old → halted_of old ≡ false → TakesStep g h old new (Store pid addr stored) Done → SparesGranted old new pid (addr / 4096) Kinds.Store
  store_chance (Sv39 old) (Sv39 new) pid addr stored sound runs done = λ one. granted_kept (picture_of old.core) (picture_of new.core) pid (addr / 4096) _ (sound.going runs).fit (done.does.accesses.0.chance refl (λ stall e. cc) one)
  store_chance (Sv48 old) (Sv48 new) pid addr stored sound runs done = λ one. granted_kept (picture_of old.core) (picture_of new.core) pid (addr / 4096) _ (sound.going runs).fit (done.does.accesses.0.chance refl (λ stall e. cc) one)
  store_chance old new pid addr stored sound runs done = absurd done.does.accesses
