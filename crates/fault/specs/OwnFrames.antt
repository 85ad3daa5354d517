-- What giving a page a frame of its own needs, and what it comes to.
use Rattle.vm_types.specs.declared.mode.Levels as Levels
use Rattle.std.specs.Prelude.{◌≡◌, ◌≢◌, ℕ, true, false, Option, Some, None, Result, IfOk, IfErr, OnOk, OnErr}
use Rattle.vm_types.specs.declared.number.FrameNo.{FrameNo}
use Rattle.vm_types.specs.declared.refusal.Stall.{Stall}
use Rattle.vm_types.specs.declared.region.Attr.{Attr}
use Rattle.vm_types.specs.Permission.{can_write}
use Rattle.vm_types.specs.Verdict.{is_past_end}
use Rattle.disk_model.specs.declared.sector_disk.SectorDisk.{Ghosts}
use Rattle.disk_model.specs.Moments.{Nothing}
use Rattle.frames.specs.declared.role.Role.TheVariants.{Free, Table}
use Rattle.frames.specs.FrameTable.{IsFrame, bytes_of, count_of, role_of}
use Rattle.swap.specs.Slots.{IsReady}
use Rattle.page_tables.specs.Leaves.{IsEntryOver}
use Rattle.residency.specs.declared.kernel.Core.{Core}
use Rattle.residency.specs.Picture.{picture_of, entry, is_private, is_swapped, view}
use Rattle.residency.specs.Parts.{IsBehind, IsFit, is_shared}
use Rattle.residency.specs.Calls.{Frees, KeepsRest, Refuses, UsesDevice}
use Rattle.residency.specs.Capacity.{IsShort}
use Rattle.residency.specs.Chances.{AreAllMarked, GivesChance}
use Rattle.residency.specs.Shows.{KeepsFiles}
use Rattle.residency.specs.Stalls.{HasStallCause}
use Rattle.fault.specs.declared.spot.Spot.{Spot}
use Rattle.fault.specs.Asking.{AsksIfFull, IsSectorOfCopy}
use Rattle.fault.specs.Chances.{GivesOthersChance}
use Rattle.fault.specs.Changes.{StandsAt, AddsNoTable, IsCalm, IsThatPage, KeepsOtherBare, KeepsOtherViews, KeepsSlotted, KeepsViews, Moves, TakesCopy, is_sole, shown_frame}
use Rattle.fault.specs.Leaves.{IsFullEntry}

module _ {M : Type 0} {m : Levels.Ghosts M} {D E : Type 0} (h : Ghosts E) where
  -- A page of which its process may have a copy of its own
  pub record IsOwnable (core : Core D E M m) (spot : Spot) (attr : Attr) : Type 0 where
    -- has its entry in a table that is there,
    pub stands : StandsAt (picture_of core) spot
    -- may be written, is seen by no other process, and begins inside its file,
    pub mapped : (picture_of core).at spot.pid spot.page ≡ Some attr
    pub writable : can_write attr.prot ≡ true
    pub not_shared : is_shared attr.backing ≡ false
    pub inside : is_past_end (picture_of core).files attr.backing ≡ false
    -- and lies in no slot; the swap device may be used.
    pub resident : is_swapped (entry (picture_of core) spot.pid spot.page) ≡ false
    pub swap : IsReady h core.swap

  -- The page lies in a slot:
  pub record LiesInSlot (core : Core D E M m) (there : Spot) (its : Attr) : Type 0 where
    -- it has its entry in a table that is there, and is mapped so,
    pub spot : StandsAt (picture_of core) there
    pub attr : (picture_of core).at there.pid there.page ≡ Some its
    -- and the entry names the slot, of a swap device that may be used.
    pub away : is_swapped (entry (picture_of core) there.pid there.page) ≡ true
    pub swap : IsReady h core.swap

  -- A frame may be copied:
  pub record MayCopy (core : Core D E M m) (frame : FrameNo) : Type 0 where
    -- memory is fit, and the swap device may be used,
    pub fit : IsFit (picture_of core)
    pub swap : IsReady h core.swap
    -- and the frame is one of memory that is in use, and no table.
    pub source : IsFrame core.frames frame.0
    pub in_use : role_of core.frames frame.0 ≢ Free
    pub datum : role_of core.frames frame.0 ≢ Table

  -- A page of a process wants a copy of a frame:
  pub record TakesFrameWith (old new : Core D E M m) (page : ℕ) (source : FrameNo) (also : ℕ → Type 0) (result : Result FrameNo Stall) : Type 0 where
    -- one that holds the same bytes, and that no entry names yet, is returned,
    pub taken : IfOk result (λ n. TakesCopy (picture_of old) (picture_of new) n.0 page source.0)
    -- each page that was accessed keeps its entry but for A, unless every frame that might be given up had its mark,
    pub chance : OnOk result (GivesChance (picture_of old) (picture_of new) (Some source))
    -- all but memory and swap is as it was, and the swap device may be used further;
    pub rest : KeepsRest old new
    pub swap : IsReady h new.swap
    pub device : UsesDevice h old.swap.pages.disk new.swap.pages.disk
    -- it is asked for these sectors alone, and where no frame is free for those of free slots;
    pub asks : AsksIfFull h old new (Some source) also
    -- or none is to be had, and that frame isn't given up for it: then memory is fit, and frames may have been given up.
    pub fit : OnErr result (IsFit (picture_of new))
    pub frees : OnErr result (Frees (picture_of old) (picture_of new) (Some source))
    pub refuses : IfErr result (Refuses (picture_of new) (Some source))
    pub short : IfErr result (IsShort (picture_of new))
    pub cause : HasStallCause h old new result

  -- Whatever comes of the wish for a frame for one page:
  pub record LeavesOthers (old new : Core D E M m) (pid page : ℕ) : Type 0 where
    -- memory is fit, with the processes, the regions and the tables that it had, and the swap device may be used further;
    pub moves : Moves h old new
    -- no frame comes to be a table;
    pub no_table : AddsNoTable (picture_of old) (picture_of new)
    -- every file has the bytes that it had;
    pub files : KeepsFiles (picture_of old) (picture_of new)
    -- no other page is seen otherwise, has an entry that had none, or comes out of its slot.
    pub others : KeepsOtherViews (picture_of old) (picture_of new) pid page
    pub bare : KeepsOtherBare (picture_of old) (picture_of new) pid page
    pub slotted : KeepsSlotted (λ p. ⊥) (IsThatPage pid page) (picture_of old) (picture_of new)

  -- Where it stalls,
  pub record StallsUnseen (old new : Core D E M m) (keep : Option FrameNo) (result : Result FrameNo Stall) : Type 0 where
    -- every page is seen as before, though frames may have been given up, but not the one that is kept;
    pub same : OnErr result (KeepsViews (picture_of old) (picture_of new))
    pub frees : OnErr result (Frees (picture_of old) (picture_of new) keep)
    -- and none of those that are left is to be had, or the swap device failed.
    pub refuses : IfErr result (Refuses (picture_of new) keep)
    pub short : IfErr result (IsShort (picture_of new))
    pub cause : HasStallCause h old new result

  -- A page that shows a frame is given a copy of it:
  pub record CopiesPage (old new : Core D E M m) (pid page : ℕ) (attr : Attr) (shown : FrameNo) (result : Result FrameNo Stall) : Type 0 where
    -- it shows the same bytes in the frame that is returned, to which its entry allows stores, and which no other process has,
    pub own : IfOk result (λ n. view (picture_of new) pid page ≡ Some (record { attr = attr; own = Some (bytes_of old.frames shown.0) }))
    pub bytes : IfOk result (λ n. bytes_of new.frames n.0 ≡ bytes_of old.frames shown.0)
    pub entered : IfOk result (λ n. IsEntryOver (entry (picture_of new) pid page) attr.prot n.0 true true true)
    pub sole : IfOk result (λ n. count_of new.frames n.0 ≡ 1)
    -- and what stands behind the page stays, as do all others;
    pub behind : (n : ℕ) → is_private (entry (picture_of old) pid page) ≡ false → IsBehind (picture_of old) attr.backing n
        → IsBehind (picture_of new) attr.backing n × (bytes_of new.frames n ≡ bytes_of old.frames n)
    pub keeps : LeavesOthers old new pid page
    pub open keeps use *
    -- those that were accessed keep their entries but for A, unless every frame that might be given up had its mark;
    pub chance : OnOk result (GivesOthersChance (picture_of old) (picture_of new) pid page (AreAllMarked (picture_of old) (Some shown)))
    -- the swap device is asked for free slots alone, and only where no frame is free;
    pub asks : AsksIfFull h old new (Some shown) Nothing
    -- or no frame is to be had, and that one isn't given up for it.
    pub stalls : StallsUnseen old new (Some shown) result
    pub open stalls use *

  -- A page has its frame alone:
  pub record MakesSole (old new : Core D E M m) (pid page : ℕ) (attr : Attr) (result : Result FrameNo Stall) : Type 0 where
    -- it is given a copy of the frame that it shows,
    pub copies : CopiesPage old new pid page attr (record { 0 = shown_frame (picture_of old) (entry (picture_of old) pid page) attr.backing }) result
    pub open copies use *
    -- but where its process was the only one to have that frame: then nothing changes but its entry, and no frame is wanted.
    pub calm : is_sole (picture_of old) (entry (picture_of old) pid page) ≡ true → IsCalm old new pid page
    pub wanted : OnErr result (is_sole (picture_of old) (entry (picture_of old) pid page) ≡ false)

  -- A page's own copy comes back from its slot:
  pub record SwapsIn (old new : Core D E M m) (pid page : ℕ) (attr : Attr) (result : Result FrameNo Stall) : Type 0 where
    -- its entry allows all that its permission does to the frame that is returned, which no other process has,
    pub entered : IfOk result (λ n. IsFullEntry (picture_of new) attr n.0 true (entry (picture_of new) pid page))
    pub sole : IfOk result (λ n. count_of new.frames n.0 ≡ 1)
    -- and it shows what it showed, as long as the swap device keeps its model, as do all others;
    pub seen : h.keeps_model new.swap.pages.disk → KeepsViews (picture_of old) (picture_of new)
    pub keeps : LeavesOthers old new pid page
    pub open keeps use *
    -- those that were accessed keep their entries but for A, unless every frame that might be given up had its mark;
    pub chance : OnOk result (GivesOthersChance (picture_of old) (picture_of new) pid page (AreAllMarked (picture_of old) None))
    -- the swap device is asked for that slot alone, and where no frame is free for free ones;
    pub asks : AsksIfFull h old new None (IsSectorOfCopy (picture_of old) pid page)
    -- or no frame is to be had, or the swap device failed.
    pub stalls : StallsUnseen old new None result
    pub open stalls use *
