-- What the result of an msync comes from.
use Rattle.vm_types.specs.declared.mode.Levels as Levels
use Rattle.machine.proofs.{Accesses.{refused_so}, Names.{◌≡◌, ◌≢◌, ◌<◌, ◌≤◌, true, false, refl, sym, ap, ◌∙◌, subst, arith, Ghosts, Tally, Core, ReadCause, IsCaused, names_store, names_swap, refused_count, EIO, Stall, SwapDevice, Answer}}
use Rattle.{machine.proofs.Names.{reply_of}, vm_types.specs.declared.reply.Answer.TheVariants.{Refused, Stalled}}
use Rattle.vm_types.specs.declared.reply.Reply.TheVariants as Reply
use Rattle.sized_stores.specs.Store.{disk_of}

-- only the answer that stalls is a stall
stalled_so : (a : Answer) (stall : Stall) → reply_of a ≡ Reply.Stalled stall → a ≡ Stalled stall
stalled_so (Stalled other) stall e = let same : Reply.Stalled other ≡ Reply.Stalled stall = e in cc
stalled_so a stall e = absurd (cc)

-- a stall for the swap device refused no frame
none_refused : (a : Answer) → ((stall : Stall) → a ≡ Stalled stall → stall ≡ SwapDevice) → refused_count (reply_of a) ≡ 0
none_refused (Stalled stall) only = rw (only stall refl) refl
none_refused a only = refl

-- what names the store is no answer that doesn't
failure_named : (a : Answer) → names_store (reply_of a) ≡ false → a ≢ Refused EIO
failure_named a calm is = absurd (let named : names_store (reply_of (Refused EIO)) ≡ false = subst (λ (b : Answer). names_store (reply_of b) ≡ false) is calm in cc)

-- an answer that doesn't name the swap device, where only that one stalls, is no stall
unstalled : (a : Answer) → ((stall : Stall) → a ≡ Stalled stall → stall ≡ SwapDevice) → names_swap (reply_of a) ≡ false → (stall : Stall) → a ≢ Stalled stall
unstalled a only calm stall is =
    let named : names_swap (reply_of (Stalled SwapDevice)) ≡ false =
    subst (λ (b : Answer). names_swap (reply_of b) ≡ false) (is ∙ ap (λ (x : Stall). Stalled x) (only stall is)) calm in
    absurd (let never : true ≡ false = named in cc)

module _ {M : Type 0} {levels : Levels.Ghosts M} {D E : Type 0} (g : Ghosts D) (h : Ghosts E) where
  stall_cause : (old new : Core D E M levels) (stall : Stall) → stall ≡ SwapDevice → new.refused ≡ old.refused → g.failures (disk_of new.store) ≡ g.failures (disk_of old.store)
      → h.failures old.swap.pages.disk < h.failures new.swap.pages.disk → ReadCause g h old new stall
  stall_cause old new stall is refused calm grew = subst (ReadCause g h old new) (sym is) (ap (λ (c : Tally). c.number) refused, calm, grew)

  pub msync_caused : (old new : Core D E M levels) (a : Answer) → g.failures (disk_of old.store) ≤ g.failures (disk_of new.store)
      → h.failures old.swap.pages.disk ≤ h.failures new.swap.pages.disk
      → (a ≡ Refused EIO → g.failures (disk_of old.store) < g.failures (disk_of new.store))
      → (a ≢ Refused EIO → g.failures (disk_of new.store) ≡ g.failures (disk_of old.store))
      → ((stall : Stall) → a ≡ Stalled stall → (stall ≡ SwapDevice) × (h.failures old.swap.pages.disk < h.failures new.swap.pages.disk))
      → (((stall : Stall) → a ≢ Stalled stall) → h.failures new.swap.pages.disk ≡ h.failures old.swap.pages.disk)
      → new.refused ≡ old.refused → IsCaused g h old new (reply_of a)
  msync_caused old new a later swap_later cause calm stalled still refused = record {
    later = later;
    swap_later = swap_later;
    calm = λ names. calm (failure_named a names);
    swap_calm = λ names. still (unstalled a (λ stall is. (stalled stall is).0) names);
    counted = omega (arith, ap (λ (c : Tally). c.number) refused, none_refused a (λ stall is. (stalled stall is).0));
    failed = λ r. cause (refused_so a EIO r);
    stalled = λ stall r.
        let is = stalled_so a stall r in
        let why = stalled stall is in
        stall_cause old new stall why.0 refused (calm (λ failed. absurd (let never : Refused EIO ≡ Stalled stall = sym failed ∙ is in cc))) why.1;
  }
