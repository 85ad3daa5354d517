-- Pages put into slots, and got from them.
use Rattle.std.specs.Prelude.{◌≡◌, ◌≢◌, ℕ, ◌*◌, ◌<◌, ◌≤◌, ◌↔◌, List, Some, Result, IfOk, OnOk, OnErr, IsErrOf}
use Rattle.vm_types.specs.declared.number.SlotNo.{SlotNo}
use Rattle.disk_model.specs.Stop.{HasCause, ChangesPage, IsOfPage, NamesOnce}
use Rattle.disk_model.specs.Moments.{AsksOnly}
use Rattle.disk_model.specs.declared.sector_disk.DiskFault.{DiskFault}
use Rattle.disk_model.specs.declared.sector_disk.SectorDisk.{Ghosts}
use Rattle.swap.specs.declared.pages.Pages.{Pages}
use Rattle.swap.specs.declared.slots.Swap.{Swap}
use Rattle.swap.specs.declared.slots.PutFault.{PutFault}
use Rattle.swap.specs.declared.slots.PutFault.TheVariants.{Full, Device}
use Rattle.swap.specs.Written.{written_in, IsAsWritten}
use Rattle.swap.specs.Slots.{slots_of, IsReady, IsSwapFull, AreSoundSlots, Same, Puts, IsSectorOfSlot, IsSectorOfFreeSlot}

module _ {T D : Type 0} (g : Ghosts D) where
  -- page n of a device was asked for, which is of use as before
  pub record KeepsWritten (old new : Pages D) (n : ℕ) (result : Result T DiskFault) : Type 0 where
    -- no sector but its eight was asked for
    pub asks : AsksOnly g (IsOfPage (8 * n)) old.disk new.disk
    -- and each of them once at most
    pub once : NamesOnce (IsOfPage (8 * n)) (g.asked old.disk) (g.asked new.disk)
    -- the device holds what was written, as long as it keeps its model, which it did before if it does now
    pub as_written : IsAsWritten g new.disk new.written.notes
    pub kept : g.keeps_model new.disk → g.keeps_model old.disk
    -- it has as many sectors as before
    pub size : g.sector_count new.disk ≡ g.sector_count old.disk
    -- and an error is a failure of it
    pub cause : HasCause (g.failures old.disk) (g.failures new.disk) result

  -- page n was written
  pub record WritesPage (old new : Pages D) (n : ℕ) (page : List ℕ) (result : Result T DiskFault) : Type 0 where
    -- what was written to it last is known where the device didn't fail
    pub written : OnOk result (written_in new.written.notes n ≡ Some page)
    -- of every other page it is what it was
    pub others : (m : ℕ) → m ≢ n → written_in new.written.notes m ≡ written_in old.written.notes m
    -- and no other changes on the device
    pub sectors : g.keeps_model new.disk → ChangesPage (8 * n) (g.content old.disk) (g.content new.disk)
    pub keeps : KeepsWritten old new n result
    pub open keeps use *

  -- page n was read
  pub record ReadsPage (old new : Pages D) (n : ℕ) (to : List ℕ) (result : Result T DiskFault) : Type 0 where
    -- it is what was written to it last, as long as the device keeps its model
    pub gives : g.keeps_model new.disk → OnOk result ((w : List ℕ) → written_in old.written.notes n ≡ Some w → to ≡ w)
    -- and nothing changes
    pub same : new.written ≡ old.written
    pub unchanged : g.keeps_model new.disk → g.content new.disk ≡ g.content old.disk
    pub keeps : KeepsWritten old new n result
    pub open keeps use *

module _ {D : Type 0} (g : Ghosts D) where
  -- the device of slots was used, on which slots may be put and got as before
  pub record KeepsSlots (old new : Swap D) : Type 0 where
    pub ready : IsReady g new
    pub size : g.sector_count new.pages.disk ≡ g.sector_count old.pages.disk
    pub kept : g.keeps_model new.pages.disk → g.keeps_model old.pages.disk

  -- a page was to be put into a free slot
  pub record PutsInSlot (old new : Swap D) (page : List ℕ) (result : Result SlotNo PutFault) : Type 0 where
    -- the slot has it, with one share; the device didn't fail, was asked for no sector but the slot's, and no other changes on it
    pub puts : IfOk result (λ n. Puts (slots_of old) (slots_of new) n.0 page)
    pub calm : OnOk result (g.failures new.pages.disk ≡ g.failures old.pages.disk)
    pub asks : IfOk result (λ n. AsksOnly g (IsSectorOfSlot n.0) old.pages.disk new.pages.disk)
    pub sectors : g.keeps_model new.pages.disk → IfOk result (λ n. ChangesPage (8 * n.0) (g.content old.pages.disk) (g.content new.pages.disk))
    -- whatever comes, slots are sound and stay of use, and the device is asked for no sector but those of slots that were free
    pub sound : AreSoundSlots (slots_of new)
    pub keeps : KeepsSlots old new
    pub open keeps use *
    pub asks_free : AsksOnly g (IsSectorOfFreeSlot (slots_of old)) old.pages.disk new.pages.disk
    -- and for none twice
    pub once : NamesOnce (IsSectorOfFreeSlot (slots_of old)) (g.asked old.pages.disk) (g.asked new.pages.disk)
    pub later : g.failures old.pages.disk ≤ g.failures new.pages.disk
    -- else every share, and every slot in use, is as it was
    pub same : OnErr result (Same (slots_of old) (slots_of new))
    -- and no slot was free, exactly then, for which the device isn't asked, or it failed
    pub full : IsErrOf result Full ↔ IsSwapFull (slots_of old)
    pub unasked : IsErrOf result Full → new.pages ≡ old.pages
    pub device : IsErrOf result Device → g.failures old.pages.disk < g.failures new.pages.disk

module _ {T D : Type 0} (g : Ghosts D) where
  -- slot n was read
  pub record GetsFromSlot (old new : Swap D) (n : ℕ) (to : List ℕ) (result : Result T DiskFault) : Type 0 where
    -- its bytes are what was put into it, as long as the device keeps its model
    pub gives : g.keeps_model new.pages.disk → OnOk result (to ≡ (slots_of old).bytes n)
    -- all slots are as they were, and stay of use; no sector but the slot's was asked for, and none changed
    pub same : slots_of new ≡ slots_of old
    pub keeps : KeepsSlots g old new
    pub open keeps use *
    pub asks : AsksOnly g (IsSectorOfSlot n) old.pages.disk new.pages.disk
    pub once : NamesOnce (IsSectorOfSlot n) (g.asked old.pages.disk) (g.asked new.pages.disk)
    pub unchanged : g.keeps_model new.pages.disk → g.content new.pages.disk ≡ g.content old.pages.disk
    -- and an error is a failure of the device
    pub cause : HasCause (g.failures old.pages.disk) (g.failures new.pages.disk) result
