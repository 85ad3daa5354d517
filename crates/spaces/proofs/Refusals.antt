-- What an access without a place says of devices and frames.
use Rattle.vm_types.specs.declared.mode.Levels as Levels
use Rattle.spaces.proofs.Names.{ℕ, ◌≡◌, ◌≤◌, ◌+◌, true, false, ap, subst, arith, rules, Ghosts, AccessRefusal, Core, ReadCause, Access, Fault, Stall, SwapDevice, StoreDevice, Faulted, Stalled, Width, reply_of}
use Rattle.spaces.specs.{Accesses.{reply_for}, Calls.{IsCaused}, Idle.{is_denial, refused_by, stalls_store, stalls_swap}}
use Rattle.fault.specs.declared.refusal.AccessRefusal.TheVariants as Refusal
use Rattle.fault.specs.Outcome as Faults
use Rattle.sized_stores.specs.Store.{disk_of}

-- a fault is no stall
pub no_stall : (fault : Fault) (stall : Stall) → Faulted fault ≡ Stalled stall → ⊥
no_stall fault stall e = cc

pub same_stall : (a b : Stall) → Stalled a ≡ Stalled b → a ≡ b
same_stall a b e = cc

module _ {M : Type 0} {m : Levels.Ghosts M} {D E : Type 0} (g : Ghosts D) (h : Ghosts E) where
  counted : (old new : Core D E M m) (stall : Stall) → ReadCause g h old new stall → new.refused.number ≡ old.refused.number + refused_by stall
  counted old new SwapDevice cause = omega (arith, cause.0)
  counted old new StoreDevice cause = omega (arith, cause.0)
  counted old new stall cause = cause.0

  calm : (old new : Core D E M m) (stall : Stall) → ReadCause g h old new stall → stalls_store stall ≡ false → g.failures (disk_of new.store) ≡ g.failures (disk_of old.store)
  calm old new StoreDevice cause other = absurd (let never : true ≡ false = other in cc)
  calm old new stall cause other = cause.1

  swap_calm : (old new : Core D E M m) (stall : Stall) → ReadCause g h old new stall → stalls_swap stall ≡ false → h.failures new.swap.pages.disk ≡ h.failures old.swap.pages.disk
  swap_calm old new SwapDevice cause other = absurd (let never : true ≡ false = other in cc)
  swap_calm old new stall cause other = cause.2

  -- a stall comes of what it names
  pub stall_caused : (old new : Core D E M m) (stall : Stall) → g.failures (disk_of old.store) ≤ g.failures (disk_of new.store)
      → h.failures old.swap.pages.disk ≤ h.failures new.swap.pages.disk → ReadCause g h old new stall → IsCaused g h old new (Stalled stall)
  stall_caused old new stall later swap_later cause = record {
    later = later;
    swap_later = swap_later;
    calm = λ other. calm old new stall cause other;
    swap_calm = λ other. swap_calm old new stall cause other;
    counted = counted old new stall cause;
    failed = search rules;
    stalled = λ other e. subst (λ (x : Stall). ReadCause g h old new x) (same_stall stall other e) cause;
  }

  module _ (old new : Core D E M m) (pid addr : ℕ) (width : Width) (kind : Access) where
    -- a fault is told before anything is done
    pub refused_idle : (refusal : AccessRefusal) → Faults.IsRefusal g h old new pid addr width kind refusal → is_denial (reply_of (reply_for refusal)) ≡ true → new ≡ old
    refused_idle (Refusal.Fault fault) is denied = is.3
    refused_idle (Refusal.Stall stall) is denied = absurd (let never : false ≡ true = denied in cc)

    pub refused_caused : (refusal : AccessRefusal) → g.failures (disk_of old.store) ≤ g.failures (disk_of new.store) → h.failures old.swap.pages.disk ≤ h.failures new.swap.pages.disk
        → Faults.IsRefusal g h old new pid addr width kind refusal → IsCaused g h old new (reply_of (reply_for refusal))
    refused_caused (Refusal.Fault fault) later swap_later is = record {
      later = later;
      swap_later = swap_later;
      calm = λ named. ap (λ (c : Core D E M m). g.failures (disk_of c.store)) is.3;
      swap_calm = λ named. ap (λ (c : Core D E M m). h.failures c.swap.pages.disk) is.3;
      counted = let same : new.refused.number ≡ old.refused.number = ap (λ (c : Core D E M m). c.refused.number) is.3 in omega (arith, same);
      failed = search rules;
      stalled = λ stall e. absurd (no_stall fault stall e);
    }
    refused_caused (Refusal.Stall stall) later swap_later is = stall_caused old new stall later swap_later is.stalled.cause
