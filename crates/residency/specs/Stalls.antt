-- What stalls come from, and what is counted of them.
use Rattle.vm_types.specs.declared.mode.Levels as Levels
use Rattle.std.specs.Prelude.{◌≡◌, ◌<◌, ◌+◌, Result, MatchResult}
use Rattle.vm_types.specs.declared.refusal.Stall.{Stall}
use Rattle.vm_types.specs.declared.refusal.Stall.TheVariants.{NoFrames, NoSwap, SwapDevice, StoreDevice}
use Rattle.disk_model.specs.declared.sector_disk.SectorDisk.{Ghosts}
use Rattle.residency.specs.declared.kernel.Core.{Core}
use Rattle.sized_stores.specs.Store.{disk_of}

module _ {M : Type 0} {m : Levels.Ghosts M} {E : Type 0} (h : Ghosts E) where
  module _ {D : Type 0} where
    -- Of a call that leaves the store alone: want of frames or slots was counted as a refused request, and else the swap device
    -- failed. Where the stall doesn't name it, it counted no failure.
    abbrev pub StallCause : Core D E M m → Core D E M m → Stall → Type 0
    StallCause old new NoFrames = (new.refused.number ≡ old.refused.number + 1) × (h.failures new.swap.pages.disk ≡ h.failures old.swap.pages.disk)
    StallCause old new NoSwap = (new.refused.number ≡ old.refused.number + 1) × (h.failures new.swap.pages.disk ≡ h.failures old.swap.pages.disk)
    StallCause old new SwapDevice = (new.refused.number ≡ old.refused.number) × (h.failures old.swap.pages.disk < h.failures new.swap.pages.disk)
    StallCause old new StoreDevice = ⊥

    -- A stall has its cause. Where there is none, no request was refused, and the swap device counted no failure.
    abbrev pub HasStallCause : {T : Type 0} → Core D E M m → Core D E M m → Result T Stall → Type 0
    HasStallCause old new result = MatchResult result
        (λ done. (new.refused.number ≡ old.refused.number) × (h.failures new.swap.pages.disk ≡ h.failures old.swap.pages.disk)) (StallCause old new)

module _ {M : Type 0} {m : Levels.Ghosts M} {D : Type 0} (g : Ghosts D) {E : Type 0} (h : Ghosts E) where
  -- no request was refused, and neither device counted a failure
  abbrev pub CountsNothing : Core D E M m → Core D E M m → Type 0
  CountsNothing old new = (new.refused.number ≡ old.refused.number) × (g.failures (disk_of new.store) ≡ g.failures (disk_of old.store)) × (h.failures new.swap.pages.disk ≡ h.failures old.swap.pages.disk)

  -- Of a call that reads the store: the device that the stall names failed, and the other one, or both where it names none,
  -- counted no failure.
  abbrev pub ReadCause : Core D E M m → Core D E M m → Stall → Type 0
  ReadCause old new NoFrames = (new.refused.number ≡ old.refused.number + 1) × (g.failures (disk_of new.store) ≡ g.failures (disk_of old.store)) × (h.failures new.swap.pages.disk ≡ h.failures old.swap.pages.disk)
  ReadCause old new NoSwap = (new.refused.number ≡ old.refused.number + 1) × (g.failures (disk_of new.store) ≡ g.failures (disk_of old.store)) × (h.failures new.swap.pages.disk ≡ h.failures old.swap.pages.disk)
  ReadCause old new SwapDevice = (new.refused.number ≡ old.refused.number) × (g.failures (disk_of new.store) ≡ g.failures (disk_of old.store)) × (h.failures old.swap.pages.disk < h.failures new.swap.pages.disk)
  ReadCause old new StoreDevice = (new.refused.number ≡ old.refused.number) × (g.failures (disk_of old.store) < g.failures (disk_of new.store)) × (h.failures new.swap.pages.disk ≡ h.failures old.swap.pages.disk)

  -- A stall has its cause, and where there is none, nothing was counted.
  abbrev pub HasReadCause : {T : Type 0} → Core D E M m → Core D E M m → Result T Stall → Type 0
  HasReadCause old new result = MatchResult result (λ done. CountsNothing old new) (ReadCause old new)
