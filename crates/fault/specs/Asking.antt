-- Which sectors a call asks for, of the store and of swap, and which a later call may.
use Rattle.vm_types.specs.declared.mode.Levels as Levels
use Rattle.std.specs.Prelude.{◌≡◌, ℕ, ◌⊎◌, Option, Some, None}
use Rattle.vm_types.specs.declared.file.FilePage.{FilePage}
use Rattle.vm_types.specs.declared.object.PageKey.{PageKey}
use Rattle.vm_types.specs.declared.object.PageKey.TheVariants.{File}
use Rattle.vm_types.specs.declared.number.FrameNo.{FrameNo}
use Rattle.vm_types.specs.declared.number.SlotNo.{SlotNo}
use Rattle.disk_model.specs.declared.sector_disk.SectorDisk.{Ghosts}
use Rattle.disk_model.specs.Moments.{AsksOnly}
use Rattle.frames.specs.FrameTable.{IsFull}
use Rattle.sized_stores.specs.declared.store.SizedStore.{SizedStore}
use Rattle.sized_stores.specs.Store.{IsSectorOf}
use Rattle.page_cache.specs.declared.place.Place.TheVariants.{Slot}
use Rattle.swap.specs.Slots.{IsSectorOfSlot, IsSectorOfFreeSlot}
use Rattle.residency.specs.declared.kernel.Core.{Core}
use Rattle.residency.specs.Seats.{InSlot, seat}
use Rattle.residency.specs.Picture.{Picture, picture_of, entry}
use Rattle.residency.specs.Calls.{IsSpareable, NeedsSlot}

module _ {mode : ℕ} where
  -- a frame that may be given up holds a page that has to be put into a slot first
  abbrev pub HasSwappable : Picture mode → Option FrameNo → Type 0
  HasSwappable c keep = (n : ℕ) × IsSpareable c keep n × NeedsSlot c n

  -- The sectors of swap's device that a call may ask for: these, and those of free slots, which only where memory is full, as that
  -- says, and a frame that may be given up holds a page that has to be put into one.
  abbrev pub MayAsk : Picture mode → Type 0 → Option FrameNo → (ℕ → Type 0) → ℕ → Type 0
  MayAsk c full keep also k = also k ⊎ (full × HasSwappable c keep × IsSectorOfFreeSlot c.slots k)

  -- What a later call may ask for, which doesn't give that frame up, an earlier one might have asked for, but for these sectors.
  pub record AsksNoNew (old new : Picture mode) (keep : Option FrameNo) (also : ℕ → Type 0) : Type 0 where
    pub slots : (k : ℕ) → IsSectorOfFreeSlot new.slots k → IsSectorOfFreeSlot old.slots k ⊎ also k
    pub frames : HasSwappable new keep → HasSwappable old None

  -- a sector of the slot that a page of a file or an object lies in
  abbrev pub IsSectorOfPage : Picture mode → PageKey → ℕ → Type 0
  IsSectorOfPage c p k = (s : SlotNo) × (c.place p ≡ Slot s) × IsSectorOfSlot s.0 k

  -- a sector of the slot that a page's own copy lies in
  abbrev pub IsSectorOfCopy : Picture mode → ℕ → ℕ → ℕ → Type 0
  IsSectorOfCopy c pid page k = (s : ℕ) × (seat (entry c pid page) ≡ Some (InSlot s)) × IsSectorOfSlot s k

module _ {D : Type 0} where
  -- a sector in which a page stands in the store, if it is one of a file
  abbrev pub IsSectorOfStoredPage : SizedStore D → PageKey → ℕ → Type 0
  IsSectorOfStoredPage store p k = (f : FilePage) × (p ≡ File f) × IsSectorOf store f k

module _ {M : Type 0} {m : Levels.Ghosts M} {D E : Type 0} (h : Ghosts E) where
  -- swap's device was asked for no sector but those
  abbrev pub AsksSlotsIf : Type 0 → Core D E M m → Core D E M m → Option FrameNo → (ℕ → Type 0) → Type 0
  AsksSlotsIf full old new keep also = AsksOnly h (MayAsk (picture_of old) full keep also) old.swap.pages.disk new.swap.pages.disk

  -- where no frame was free for those of free slots
  abbrev pub AsksIfFull : Core D E M m → Core D E M m → Option FrameNo → (ℕ → Type 0) → Type 0
  AsksIfFull old new keep also = AsksSlotsIf (IsFull old.frames) old new keep also

  -- or of free slots whether a frame was free or not
  abbrev pub AsksSlots : Core D E M m → Core D E M m → Option FrameNo → (ℕ → Type 0) → Type 0
  AsksSlots old new keep also = AsksSlotsIf (Unit {0}) old new keep also
