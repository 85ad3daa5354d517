-- What an access asks for.
use Rattle.vm_types.specs.declared.mode.Levels as Levels
use Rattle.spaces.proofs.Names.{ℕ, ◌≡◌, ◌≢◌, ◌⊎◌, ◌/◌, true, false, Some, is_some, List, Result, Ok, Err, inl, refl, sym, ap, ◌∙◌, subst, rules, AsksOnly, Ghosts, AnyStore, Swap, IsSoundCore, File, tends_none, AccessRefusal, Reaches, Tends}
use Rattle.spaces.proofs.Names.{IsRefusal, ReadsHome, RefusesAccess, ShowsFile, KeepsSlotted, IsThatPage, bytes_of, with_bytes, Core, KeepsAround, Picture, picture_of, is_live, Access, StoredValue, Phys, ESRCH, Stall, StoreDevice, Reply}
use Rattle.spaces.{proofs.{Names.{Done, Faulted, Refused, Stalled, Width, with_number, reply_of, byte_count}, Refusals.{no_stall, same_stall, refused_idle, refused_caused}}, specs.Accesses.{reply_for, AsksFor, KeepsToPage, LetsThrough, MayWrite}}
use Rattle.{spaces.{proofs.Room.{sound_read}, specs.{Accesses.{WritesNumber}, Idle.{is_denial}}}, vm_types.specs.declared.access.Access.TheVariants.{Store}}
use Rattle.{disk_model.specs.Stop.{NamesOnce}, fault.specs.{AccessAsking.{IsSectorShown}, Chances.{AreAllMarkedFor, GivesOthersChance, WantsOneFrame}}}
use Rattle.fault.specs.declared.refusal.AccessRefusal.TheVariants as Refusal
use Rattle.sized_stores.specs.Store.{disk_of}

-- nothing was written
pub writes_none : {M : Type 0} {m : Levels.Ghosts M} → {D E : Type 0} (access : Access) (c : Core D E M m) → MayWrite access c c
writes_none Store c = inl refl
writes_none access c = refl

asks_as : {D : Type 0} (g : Ghosts D) (W : ℕ → Type 0) (old mid new : D) → new ≡ mid → AsksOnly g W old mid → AsksOnly g W old new
asks_as g W old mid new same asks = subst (AsksOnly g W old) (sym same) asks

module _ {M : Type 0} {m : Levels.Ghosts M} {D E : Type 0} (g : Ghosts D) (h : Ghosts E) (old mid : Core D E M m) (pid addr : ℕ) (access : Access) (tends : Tends g h old mid pid (addr / 4096) access) where
  -- an access that doesn't stall, after which a store may have written a number
  pub asks_unstalled : (new : Core D E M m) → new.store ≡ mid.store → new.swap ≡ mid.swap
      → KeepsSlotted (ShowsFile (picture_of old) pid (addr / 4096)) (IsThatPage pid (addr / 4096)) (picture_of old) (picture_of new) → MayWrite access mid new
      → (reply : Reply) → ((stall : Stall) → reply ≡ Stalled stall → ⊥) → (reply ≡ Done → access ≡ Store) → (is_denial reply ≡ false → LetsThrough (picture_of mid) pid addr access)
      → (is_denial reply ≡ false → WantsOneFrame (picture_of old) pid (addr / 4096) access
      → GivesOthersChance (picture_of old) (picture_of new) pid (addr / 4096) (AreAllMarkedFor (picture_of old) pid (addr / 4096) access))
      → AsksFor g h old new pid addr access reply
  asks_unstalled new store swap slotted writes reply none stores grants chance = record {
    wanted = λ stall e. absurd (none stall e);
    refused = λ stall e. absurd (none stall e);
    home = λ e. absurd (none StoreDevice e);
    read = subst (λ (x : AnyStore D). (x ≡ old.store) ⊎ ReadsHome (picture_of old) pid (addr / 4096)) (sym store) tends.read;
    slots = λ calm. swap ∙ (tends.calm calm).swap;
    slotted = slotted;
    granted = mid;
    tables = tends.tables;
    calm = tends.calm;
    writes = writes;
    done = stores;
    grants = λ done unstalled. grants done;
    chance = λ done unstalled. chance done;
    sectors = record {
      once = subst (λ (x : AnyStore D). NamesOnce (IsSectorShown old pid (addr / 4096)) (g.asked (disk_of old.store)) (g.asked (disk_of x))) (sym store) tends.asks.once;
      store = asks_as g _ (disk_of old.store) (disk_of mid.store) (disk_of new.store) (ap (λ (x : AnyStore D). disk_of x) store) tends.asks.store;
      swap = asks_as h _ old.swap.pages.disk mid.swap.pages.disk new.swap.pages.disk (ap (λ (x : Swap E). x.pages.disk) swap) tends.asks.swap;
    };
  }

  -- an access without a place
  pub asks_refused : (width : Width) (refusal : AccessRefusal) → IsRefusal g h old mid pid addr width access refusal → AsksFor g h old mid pid addr access (reply_of (reply_for refusal))
  asks_refused width (Refusal.Fault fault) is =
      asks_unstalled mid refl refl tends.slotted (writes_none access mid) (Faulted fault) (no_stall fault) (λ e. cc) (λ done. absurd (let never : true ≡ false = done in cc))
      (λ done. absurd (let never : true ≡ false = done in cc))
  asks_refused width (Refusal.Stall stall) is = record {
    wanted = λ other e. is.stalled.wanted;
    refused = λ other e. (subst (λ (x : Stall). x ≢ StoreDevice → RefusesAccess (picture_of mid) pid (addr / 4096) access x) (same_stall stall other e) is.stalled.refused);
    home = λ e. is.stalled.home (same_stall stall StoreDevice e);
    read = tends.read;
    slots = λ calm. (tends.calm calm).swap;
    slotted = tends.slotted;
    granted = mid;
    tables = tends.tables;
    calm = tends.calm;
    writes = writes_none access mid;
    done = λ e. absurd (let never : Stalled stall ≡ Done = e in cc);
    grants = λ done unstalled. absurd (unstalled stall refl);
    chance = λ done unstalled. absurd (unstalled stall refl);
    sectors = tends.asks;
  }

module _ {M : Type 0} {m : Levels.Ghosts M} {D E : Type 0} (g : Ghosts D) (h : Ghosts E) where
  -- where there is no place
  pub keeps_refused : (old new : Core D E M m) (pid addr : ℕ) (width : Width) (access : Access) (r : Result Phys AccessRefusal) (refusal : AccessRefusal)
      → Reaches g h old new pid addr width access r → IsRefusal g h old new pid addr width access refusal → IsSoundCore g h old
      → KeepsToPage g h old new pid addr access (reply_of (reply_for refusal))
  keeps_refused old new pid addr width access r refusal reached is was =
      let goes = reached.proceeds in
      let sound = sound_read old new g h goes.reads goes.ready goes.swap goes.fit (λ p. reached.tends.touches (File p)) was in
      let idle = refused_idle g h old new pid addr width access refusal is in
      let caused = refused_caused g h old new pid addr width access refusal goes.reads.failures goes.device.later is in
      let asks = asks_refused g h old new pid addr access reached.tends width refusal is in
      search rules

  -- and where there is no process
  pub keeps_dead : (core : Core D E M m) (pid addr : ℕ) (access : Access) → IsSoundCore g h core → KeepsToPage g h core core pid addr access (Refused ESRCH)
  keeps_dead core pid addr access sound =
      let tends = tends_none g h core pid (addr / 4096) access sound.fit sound.ready sound.swap in
      let asks = asks_unstalled g h core core pid addr access tends core refl refl tends.slotted (writes_none access core) (Refused ESRCH) (λ stall e. cc) (λ e. cc)
      (λ done. absurd (let never : true ≡ false = done in cc)) (λ done. absurd (let never : true ≡ false = done in cc)) in
      search rules

-- the tables of no process grant nothing
pub no_root : {mode : ℕ} (c : Picture mode) (pid root : ℕ) → is_live c pid ≡ false → c.root pid ≡ Some root → ⊥
no_root c pid root dead lives = let bad : false ≡ true = sym dead ∙ ap is_some lives in cc

-- an access has one end
pub one_end : (r : Result Phys AccessRefusal) (place : Phys) (refusal : AccessRefusal) → r ≡ Err refusal → r ≡ Ok place → ⊥
one_end r place refusal err ok = let bad : ◌≡◌ {A = Result Phys AccessRefusal} (Err refusal) (Ok place) = sym err ∙ ok in cc

pub one_place : (r : Result Phys AccessRefusal) (a b : Phys) → r ≡ Ok a → r ≡ Ok b → a ≡ b
one_place r a b here there = let same : ◌≡◌ {A = Result Phys AccessRefusal} (Ok a) (Ok b) = sym here ∙ there in cc

-- a store that the tables granted
pub writes_walked : {M : Type 0} {m : Levels.Ghosts M} → {D E : Type 0} (old mid new : Core D E M m) (n m offset : ℕ) (stored : StoredValue) (page : List ℕ) → mid ≡ old → n ≡ m → KeepsAround mid new
    → new.clock ≡ mid.clock → new.refused ≡ mid.refused → new.frames ≡ with_bytes mid.frames n page
    → page ≡ with_number (bytes_of mid.frames n) offset (byte_count stored.width) stored.value → WritesNumber old new m offset stored
writes_walked old mid new n m offset stored page same number around clock refused frames is =
    subst (λ (k : Core _ _ _ _). WritesNumber k new m offset stored) same (record {
      frames = frames ∙ ap (λ (b : List ℕ). with_bytes mid.frames n b) is
          ∙ ap (λ (x : ℕ). with_bytes mid.frames x (with_number (bytes_of mid.frames x) offset (byte_count stored.width) stored.value)) number;
      around = around;
      clock = clock;
      refused = refused;
    })
