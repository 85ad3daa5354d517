-- What bringing a page of a file or an object into a frame comes to.
use Rattle.vm_types.specs.declared.mode.Levels as Levels
use Rattle.std.specs.Prelude.{◌≡◌, ◌≢◌, ◌⊎◌, Some, None, Result, IfOk, IfErr, OnOk, OnErr}
use Rattle.vm_types.specs.declared.number.FrameNo.{FrameNo}
use Rattle.vm_types.specs.declared.object.PageKey.{PageKey}
use Rattle.vm_types.specs.declared.refusal.Stall.{Stall}
use Rattle.vm_types.specs.declared.refusal.Stall.TheVariants.{StoreDevice}
use Rattle.disk_model.specs.declared.sector_disk.SectorDisk.{Ghosts}
use Rattle.disk_model.specs.Moments.{AsksOnly}
use Rattle.disk_model.specs.Stop.{NamesOnce}
use Rattle.frames.specs.FrameTable.{IsFull}
use Rattle.sized_stores.specs.Store.{IsReadySized, disk_of}
use Rattle.page_cache.specs.declared.place.Place.TheVariants.{Frame}
use Rattle.swap.specs.Slots.{IsReady}
use Rattle.residency.specs.declared.kernel.Core.{Core}
use Rattle.residency.specs.Picture.{picture_of}
use Rattle.residency.specs.Parts.{IsFit, IsPageFor}
use Rattle.residency.specs.Ages.{KeepsRolesBut}
use Rattle.residency.specs.Calls.{Frees, Refuses}
use Rattle.residency.specs.Capacity.{IsShort}
use Rattle.residency.specs.Chances.{GivesChance}
use Rattle.residency.specs.Stalls.{HasReadCause}
use Rattle.fault.specs.Asking.{AsksIfFull, AsksNoNew, IsSectorOfPage, IsSectorOfStoredPage}
use Rattle.fault.specs.Changes.{AddsNoTable, KeepsBare, KeepsRows, KeepsSeen, KeepsSlotted}
use Rattle.fault.specs.Files.{Proceeds, BringsFiles, IsInStore}

module _ {M : Type 0} {m : Levels.Ghosts M} {D E : Type 0} (g : Ghosts D) (h : Ghosts E) where
  -- A page of a file or an object may be brought in:
  pub record MayBring (core : Core D E M m) (page : PageKey) : Type 0 where
    -- memory is fit, both devices may be used,
    pub fit : IsFit (picture_of core)
    pub store : IsReadySized g core.store
    pub swap : IsReady h core.swap
    -- and the page begins inside its file, or is of an object that a process names.
    pub inside : IsPageFor (picture_of core) page

  -- A page of a file or an object is brought into the frame that is returned, or stays where it was:
  pub record PagesIn (old new : Core D E M m) (page : PageKey) (result : Result FrameNo Stall) : Type 0 where
    pub placed : IfOk result (λ n. (picture_of new).place page ≡ Frame n)
    -- no other frame has another use then, unless none was free;
    pub only : IfOk result (λ n. IsFull old.frames ⊎ KeepsRolesBut (picture_of old) (picture_of new) n.0)
    -- memory is fit, no process and no file sees a change,
    pub proceeds : Proceeds g h old new
    pub brings : BringsFiles g h (λ p. p ≡ page) old new
    pub keeps : KeepsSeen (picture_of old) (picture_of new)
    -- each page that was accessed keeps its entry but for A, unless every frame that might be given up had its mark;
    pub chance : OnOk result (GivesChance (picture_of old) (picture_of new) None)
    -- no entry is made, no table made or lost, and nothing else comes out of a slot;
    pub bare : KeepsBare (picture_of old) (picture_of new)
    pub rows : KeepsRows (picture_of old) (picture_of new)
    pub no_table : AddsNoTable (picture_of old) (picture_of new)
    pub slotted : KeepsSlotted (λ p. p ≡ page) (λ q p. ⊥) (picture_of old) (picture_of new)
    -- the store is read only for a file page at home, each of its sectors once at most, and no device asked for other sectors than the
    -- page's, now or by who goes on, but swap for those of free slots where no frame is free;
    pub read : (new.store ≡ old.store) ⊎ IsInStore (picture_of old) page
    pub asks : AsksIfFull h old new None (IsSectorOfPage (picture_of old) page)
    pub asks_store : AsksOnly g (IsSectorOfStoredPage old.store page) (disk_of old.store) (disk_of new.store)
    pub once_store : NamesOnce (IsSectorOfStoredPage old.store page) (g.asked (disk_of old.store)) (g.asked (disk_of new.store))
    pub asks_later : IfOk result (λ n. AsksNoNew (picture_of old) (picture_of new) (Some n) (IsSectorOfPage (picture_of old) page))
    -- a stall has its cause: a device failed, or none of the frames that were left could be had.
    pub cause : HasReadCause g h old new result
    pub home : IfErr result (λ stall. stall ≡ StoreDevice → IsInStore (picture_of old) page)
    pub frees : OnErr result (Frees (picture_of old) (picture_of new) None)
    pub refuses : IfErr result (λ stall. stall ≢ StoreDevice → Refuses (picture_of new) None stall)
    pub short : IfErr result (IsShort (picture_of new))
