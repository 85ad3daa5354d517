-- What an access to a page comes to: what it leaves, what it gives, and what it asks for.
use Rattle.vm_types.specs.declared.mode.Levels as Levels
use Rattle.std.specs.Prelude.{◌≡◌, ◌⊎◌, ℕ, ◌/◌, true, Result, Ok, IfOk, IfErr, OnOk}
use Rattle.vm_types.specs.declared.access.Access.{Access}
use Rattle.vm_types.specs.declared.number.FrameNo.{FrameNo}
use Rattle.vm_types.specs.declared.number.Phys.{Phys}
use Rattle.vm_types.specs.declared.refusal.Stall.{Stall}
use Rattle.vm_types.specs.declared.region.Attr.{Attr}
use Rattle.vm_types.specs.declared.width.Width.{Width}
use Rattle.disk_model.specs.declared.sector_disk.SectorDisk.{Ghosts}
use Rattle.page_tables.specs.Tree.{Points}
use Rattle.residency.specs.declared.kernel.Core.{Core}
use Rattle.residency.specs.Picture.{picture_of, entry, is_swapped}
use Rattle.residency.specs.Stalls.{CountsNothing}
use Rattle.fault.specs.Chances.{AreAllMarkedFor, GivesOthersChance, WantsOneFrame}
use Rattle.fault.specs.Changes.{IsCalm, IsThatPage, KeepsOtherViews, KeepsSlotted, KeepsTouched, LinksTables}
use Rattle.fault.specs.Files.{Proceeds, BringsFiles}
use Rattle.fault.specs.declared.refusal.AccessRefusal.{AccessRefusal}
use Rattle.fault.specs.AccessAsking.{AsksForPage}
use Rattle.fault.specs.Granted.{IsEntered, IsReadyAt, LeavesEntry}
use Rattle.fault.specs.Outcome.{IsPlaced, Grants, IsRefusal, IsStalled, IsWalked}
use Rattle.fault.specs.Wants.{Wants, ReadsHome, ShowsFile}

module _ {M : Type 0} {m : Levels.Ghosts M} {D E : Type 0} (g : Ghosts D) (h : Ghosts E) where
  -- Whatever comes of an access to a page:
  pub record Tends (old new : Core D E M m) (pid page : ℕ) (access : Access) : Type 0 where
    -- memory is fit, with the processes, the regions and the tables that it had, and the devices may be used further;
    pub proceeds : Proceeds g h old new
    -- every file has the bytes that it had, though its pages may have moved, and pages that were touched still are;
    pub brings : BringsFiles g h (ShowsFile (picture_of old) pid page) old new
    pub touches : KeepsTouched (picture_of old) (picture_of new)
    -- no other page is seen otherwise, and none but this one comes out of its slot;
    pub others : KeepsOtherViews (picture_of old) (picture_of new) pid page
    pub slotted : KeepsSlotted (ShowsFile (picture_of old) pid page) (IsThatPage pid page) (picture_of old) (picture_of new)
    -- where no frame is wanted, none is asked for, and nothing changes but the page's entry;
    pub calm : (Wants (picture_of old) pid page access → ⊥) → IsCalm old new pid page
    -- where one is, tables are made on this page's way alone, and every pointer to a table stands;
    pub tables : LinksTables (picture_of old) (picture_of new) pid page
    pub pointers : (n i m : ℕ) → Points old.frames n i m → Points new.frames n i m
    -- the store is read only for this page at its home, and neither device is asked for other sectors than its, but swap for free slots
    -- where a frame has to be given up.
    pub read : (new.store ≡ old.store) ⊎ ReadsHome (picture_of old) pid page
    pub asks : AsksForPage g h old new pid page access

  -- A page whose entry didn't grant an access was served:
  pub record Serves (old new : Core D E M m) (pid page : ℕ) (attr : Attr) (access : Access) (result : Result FrameNo Stall) : Type 0 where
    pub tends : Tends old new pid page access
    pub open tends use *
    -- its entry grants the access to the frame that is returned,
    pub entered : IfOk result (λ frame. IsEntered (picture_of new) pid page attr access frame.0)
    -- which holds what the page showed, where it lay in a slot as long as the swap device keeps its model,
    pub ready : (is_swapped (entry (picture_of old) pid page) ≡ true → h.keeps_model new.swap.pages.disk)
        → IfOk result (λ frame. IsReadyAt (picture_of old) (picture_of new) pid page attr access frame.0)
    -- every other page that was accessed keeps its entry but for A where one frame is wanted at most, unless every frame that might be
    -- given up had its mark,
    pub chance : WantsOneFrame (picture_of old) pid page access
        → OnOk result (GivesOthersChance (picture_of old) (picture_of new) pid page (AreAllMarkedFor (picture_of old) pid page access))
    -- and no device failed;
    pub counts : OnOk result (CountsNothing g h old new)
    -- or a frame was wanted for it, and none was to be had.
    pub stalled : IfErr result (IsStalled g h old new pid page access)

  -- An access of a process to an address returns
  pub record Reaches (old new : Core D E M m) (pid addr : ℕ) (width : Width) (access : Access) (result : Result Phys AccessRefusal) : Type 0 where
    pub tends : Tends old new pid (addr / 4096) access
    pub open tends use *
    -- the place that the walk gives, at once and with nothing changed where the tables grant it already,
    pub placed : IfOk result (IsPlaced (picture_of old) (picture_of new) pid addr width access)
    pub walked : (place : Phys) → IsWalked (picture_of old) pid addr width access place → (new ≡ old) × (result ≡ Ok place)
    -- and else by an entry that lets be done what the page's permission and the sharing of its frame allow, and no more,
    pub entered : IfOk result (λ place. LeavesEntry old new pid (addr / 4096) access (place.0 / 4096))
    -- where the page's bytes are, if it lay in a slot as long as the swap device keeps its model,
    pub granted : (is_swapped (entry (picture_of old) pid (addr / 4096)) ≡ true → h.keeps_model new.swap.pages.disk)
        → IfOk result (Grants (picture_of old) (picture_of new) pid addr width access)
    -- every other page that was accessed keeps its entry but for A where one frame is wanted at most, unless every frame that might be
    -- given up had its mark,
    pub chance : WantsOneFrame (picture_of old) pid (addr / 4096) access
        → OnOk result (GivesOthersChance (picture_of old) (picture_of new) pid (addr / 4096) (AreAllMarkedFor (picture_of old) pid (addr / 4096) access))
    -- and no device failed;
    pub counts : OnOk result (CountsNothing g h old new)
    -- or the fault that the flat model tells, or the stall.
    pub refusal : IfErr result (IsRefusal g h old new pid addr width access)
