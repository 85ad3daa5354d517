-- What asking for a frame comes to.
use Rattle.vm_types.specs.declared.mode.Levels as Levels
use Rattle.std.specs.Prelude.{◌≡◌, ◌≢◌, ◌⊎◌, ℕ, Option, None, Result, IfOk, IfErr, OnOk, OnErr}
use Rattle.vm_types.specs.State.{State}
use Rattle.vm_types.specs.View.{zero_page}
use Rattle.vm_types.specs.declared.file.FilePage.{FilePage}
use Rattle.vm_types.specs.declared.number.FrameNo.{FrameNo}
use Rattle.vm_types.specs.declared.number.SlotNo.{SlotNo}
use Rattle.vm_types.specs.declared.object.PageKey.{PageKey}
use Rattle.vm_types.specs.declared.object.PageKey.TheVariants.{File}
use Rattle.vm_types.specs.declared.refusal.Stall.{Stall}
use Rattle.vm_types.specs.declared.refusal.Stall.TheVariants.{StoreDevice}
use Rattle.disk_model.specs.declared.sector_disk.SectorDisk.{Ghosts}
use Rattle.disk_model.specs.Moments.{AsksOnly, Nothing}
use Rattle.disk_model.specs.Stop.{NamesOnce}
use Rattle.sized_stores.specs.Store.{IsReadySized, IsSectorOf, disk_of}
use Rattle.frames.specs.FrameTable.{bytes_of, IsFull}
use Rattle.swap.specs.Slots.{IsReady, IsSectorOfSlot}
use Rattle.residency.specs.declared.kernel.Core.{Core}
use Rattle.residency.specs.Picture.{picture_of}
use Rattle.residency.specs.Parts.{IsFit}
use Rattle.residency.specs.Ages.{GivesForTables, GivesFrame, KeepsRoles, KeepsRolesBut, WantsFrame}
use Rattle.residency.specs.Calls.{AsksOneSlot, AsksSwap, AsksSwapAlso, Frees, IsFreeFrame, KeepsBesideFiles, KeepsRest, ObtainsCached, ObtainsOwn, ObtainsTable, Refuses, UsesDevice}
use Rattle.residency.specs.Capacity.{IsShort}
use Rattle.residency.specs.Reading.{IsRead, ReadsStore}
use Rattle.residency.specs.Shows.{ShowsPages}
use Rattle.residency.specs.Stalls.{HasReadCause, HasStallCause}
use Rattle.residency.specs.Views.{ChoosesByClock, IsLeftBut, TurnsClock}

module _ {M : Type 0} {m : Levels.Ghosts M} {D E : Type 0} where
  -- A page of a file or an object is wanted in a frame:
  pub record ComesIn (old new : Core D E M m) (page : PageKey) (result : Result FrameNo Stall) : Type 0 where
    -- it lies in the one that is returned, the only one to be given up for it, if none was free;
    pub brought : IfOk result (λ n. ObtainsCached (picture_of old) (picture_of new) page n.0)
    -- memory is fit, whatever comes,
    pub fit : IsFit (picture_of new)
    -- and where the page stays where it was, none but one frame was given up, or was tried.
    pub frees : OnErr result (Frees (picture_of old) (picture_of new) None)
    pub tried : OnErr result ((v : ℕ) × WantsFrame (picture_of old) (picture_of new) v)

module _ {M : Type 0} {m : Levels.Ghosts M} {D E : Type 0} (h : Ghosts E) where
  -- Swap is asked for a frame, and for a page in these sectors:
  pub record UsesSwap {T : Type 0} (old new : Core D E M m) (also : ℕ → Type 0) (result : Result T Stall) : Type 0 where
    -- it may be used further,
    pub swap : IsReady h new.swap
    pub device : UsesDevice h old.swap.pages.disk new.swap.pages.disk
    -- and for the frame one slot at most was asked for.
    pub one : OnOk result (AsksOneSlot h old new also)

  -- Where no frame is to be had,
  pub record IsRefused {T : Type 0} (old new : Core D E M m) (keep : Option FrameNo) (result : Result T Stall) : Type 0 where
    -- none of those that are left can be given up, by what memory is then, and by what processes see,
    pub refuses : IfErr result (Refuses (picture_of new) keep)
    pub short : IfErr result (IsShort (picture_of new))
    -- or the swap device failed; and it is counted.
    pub cause : HasStallCause h old new result

  -- A free frame is asked for, and where there is none, one is given up for it, but not this one:
  pub record Obtains (old new : Core D E M m) (keep : Option FrameNo) (result : Result FrameNo Stall) : Type 0 where
    -- the frame that is returned is free, and none but it was given up;
    pub free : IfOk result (λ n. IsFreeFrame new.frames n.0)
    pub gives : IfOk result (λ n. GivesFrame (picture_of old) (picture_of new) n.0)
    -- memory is fit, no process and no file sees a change,
    pub fit : IsFit (picture_of new)
    pub frees : Frees (picture_of old) (picture_of new) keep
    pub shows : (s : State) → ShowsPages (picture_of old) s → ShowsPages (picture_of new) s
    pub rest : KeepsRest old new
    -- and nothing is done where one was free;
    pub idle : (IsFull old.frames → ⊥) → new ≡ old
    pub needed : IsFull old.frames ⊎ (new ≡ old)
    -- else the clock chose it, which looked at each frame twice at most;
    pub clock : TurnsClock old new keep result
    pub open clock use *
    -- and nothing else lost its marks;
    pub aged : IsFull old.frames → IfOk result (IsLeftBut old new keep)
    -- swap is asked for a free slot alone, where the frame's page has to be put into one;
    pub asked : AsksSwap h old new keep
    pub uses : UsesSwap old new Nothing result
    pub open uses use *
    -- or no frame is free, and each has the use that it had.
    pub full : OnErr result (IsFull new.frames)
    pub still : OnErr result (KeepsRoles (picture_of old) (picture_of new))
    pub tried : OnErr result ((v : ℕ) × GivesFrame (picture_of old) (picture_of new) v)
    pub refused : IsRefused old new keep result
    pub open refused use *

  -- A frame is obtained so, and put to use:
  pub record SeeksFrame (old new : Core D E M m) (keep : Option FrameNo) (result : Result FrameNo Stall) : Type 0 where
    -- all but memory and swap is as it was,
    pub rest : KeepsRest old new
    -- the clock chose it, where none was free, and nothing else lost its marks,
    pub clock : ChoosesByClock old new keep result
    pub aged : IsFull old.frames → IfOk result (IsLeftBut old new keep)
    -- swap is asked for a free slot alone, where the page of a frame has to be put into one,
    pub asked : AsksSwap h old new keep
    pub uses : UsesSwap old new Nothing result
    pub open uses use *
    -- or none is to be had.
    pub refused : IsRefused old new keep result
    pub open refused use *

  -- A frame is taken for a page of a process, but not this one:
  pub record TakesOwnFrame (old new : Core D E M m) (page : ℕ) (keep : Option FrameNo) (result : Result FrameNo Stall) : Type 0 where
    -- it is the process's own, and no entry names it yet,
    pub taken : IfOk result (λ n. ObtainsOwn (picture_of old) (picture_of new) keep n.0 page)
    -- or none is to be had: then memory is fit, and sees no change.
    pub seeks : SeeksFrame old new keep result
    pub open seeks use *
    pub fit : OnErr result (IsFit (picture_of new))
    pub frees : OnErr result (Frees (picture_of old) (picture_of new) keep)
    pub tried : OnErr result ((v : ℕ) × WantsFrame (picture_of old) (picture_of new) v)

  -- A frame is taken for a table:
  pub record TakesTable (old new : Core D E M m) (result : Result FrameNo Stall) : Type 0 where
    -- it is in no tree yet, and no other frame came to another use,
    pub taken : IfOk result (λ n. ObtainsTable (picture_of old) (picture_of new) n.0)
    pub gives : OnOk result (GivesForTables (picture_of old) (picture_of new) None)
    pub only : IfOk result (λ n. KeepsRolesBut (picture_of old) (picture_of new) n.0)
    -- or none is to be had: then memory is fit, and sees no change, and each frame has the use that it had.
    pub seeks : SeeksFrame old new None result
    pub open seeks use *
    pub fit : OnErr result (IsFit (picture_of new))
    pub frees : OnErr result (Frees (picture_of old) (picture_of new) None)
    pub full : OnErr result (IsFull new.frames)
    pub still : OnErr result (KeepsRoles (picture_of old) (picture_of new))
    pub tried : OnErr result ((tried : Option ℕ) × GivesForTables (picture_of old) (picture_of new) tried)

  -- A page of an object that is zeros is taken into a frame:
  pub record TakesBlank (old new : Core D E M m) (page : PageKey) (result : Result FrameNo Stall) : Type 0 where
    -- it comes in, and is zeros there,
    pub blank : IfOk result (λ n. bytes_of new.frames n.0 ≡ zero_page)
    pub comes : ComesIn old new page result
    pub open comes use *
    -- or no frame is to be had.
    pub seeks : SeeksFrame old new None result
    pub open seeks use *

  -- A page of a file or an object is read from its slot into a frame:
  pub record ReadsFromSlot (old new : Core D E M m) (page : PageKey) (slot : SlotNo) (result : Result FrameNo Stall) : Type 0 where
    -- it comes in, with the bytes that it had there, as long as the swap device keeps its model,
    pub same : h.keeps_model new.swap.pages.disk → IfOk result (λ n. bytes_of new.frames n.0 ≡ (picture_of old).slots.bytes slot.0)
    pub comes : ComesIn old new page result
    pub open comes use *
    pub rest : KeepsRest old new
    -- the clock chose the frame, where none was free, and nothing else lost its marks,
    pub clock : TurnsClock old new None result
    pub aged : IsFull old.frames → IfOk result (IsLeftBut old new None)
    -- swap is asked for that slot, and for a free one, where the page of a frame has to be put into one,
    pub asked : AsksSwapAlso h old new None (IsSectorOfSlot slot.0)
    pub uses : UsesSwap old new (IsSectorOfSlot slot.0) result
    pub open uses use *
    -- or no frame is to be had, or the swap device failed.
    pub refused : IsRefused old new None result
    pub open refused use *

module _ {M : Type 0} {m : Levels.Ghosts M} {D : Type 0} (g : Ghosts D) {E : Type 0} (h : Ghosts E) where
  -- A file page is read from its home into a frame:
  pub record ReadsFromHome (old new : Core D E M m) (page : FilePage) (result : Result FrameNo Stall) : Type 0 where
    -- it comes in, as it stands there, with zeros from where its file was cut off, as long as the store's device keeps its model,
    pub read : IfOk result (λ n. IsRead g old.store new.store page (bytes_of new.frames n.0))
    pub comes : ComesIn old new (File page) result
    pub open comes use *
    pub rest : KeepsBesideFiles old new
    -- the clock chose the frame, where none was free, and nothing else lost its marks,
    pub clock : TurnsClock old new None result
    pub aged : IsFull old.frames → IfOk result (IsLeftBut old new None)
    -- the store's device is asked for its sectors alone, for each of them once at most, and nothing is written,
    pub store : IsReadySized g new.store
    pub asks : AsksOnly g (IsSectorOf old.store page) (disk_of old.store) (disk_of new.store)
    pub once : NamesOnce (IsSectorOf old.store page) (g.asked (disk_of old.store)) (g.asked (disk_of new.store))
    pub reads : ReadsStore g old.store new.store
    -- swap for a free slot alone, where the page of a frame has to be put into one,
    pub asked : AsksSwap h old new None
    pub uses : UsesSwap h old new Nothing result
    pub open uses use *
    -- or no frame is to be had, and then the store isn't read, or a device failed.
    pub refuses : IfErr result (λ stall. stall ≢ StoreDevice → Refuses (picture_of new) None stall)
    pub unread : IfErr result (λ stall. stall ≢ StoreDevice → new.store ≡ old.store)
    pub short : IfErr result (IsShort (picture_of new))
    pub cause : HasReadCause g h old new result
