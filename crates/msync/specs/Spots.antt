-- Where touched pages lie, and what is read there.
use Rattle.std.specs.Prelude.{◌≡◌, ◌≢◌, ◌⊎◌, ℕ, ◌<◌, ◌≤◌, true, List, length, get_or}
use Rattle.vm_types.specs.declared.file.FilePage.{FilePage}
use Rattle.vm_types.specs.declared.object.PageKey.TheVariants.{File}
use Rattle.vm_types.specs.declared.number.FrameNo.{FrameNo}
use Rattle.vm_types.specs.declared.number.SlotNo.{SlotNo}
use Rattle.disk_model.specs.Moments.{AsksOnly}
use Rattle.disk_model.specs.declared.sector_disk.SectorDisk.{Ghosts}
use Rattle.frames.specs.FrameTable.{FrameTable, bytes_of, IsFrame}
use Rattle.swap.specs.declared.slots.Swap.{Swap}
use Rattle.swap.specs.Slots.{SlotTable, slots_of, IsInUse, IsReady, IsSectorOfSlot}
use Rattle.page_cache.specs.declared.place.Place.{Place}
use Rattle.page_cache.specs.declared.place.Place.TheVariants.{Frame, Slot}
use Rattle.residency.specs.Parts.{IsFit}
use Rattle.residency.specs.Picture.{Picture}
use Rattle.msync.specs.declared.chosen.Residence.{Residence}
use Rattle.msync.specs.declared.chosen.Residence.TheVariants.{Framed, Slotted}
use Rattle.msync.specs.declared.chosen.Spot.{Spot}
use Rattle.msync.specs.Choice.{chosen_page}

abbrev pub framed_at : FilePage → FrameNo → Spot
framed_at page frame = record { page = page; at = Framed frame }

abbrev pub slotted_at : FilePage → SlotNo → Spot
slotted_at page slot = record { page = page; at = Slotted slot }

abbrev pub spot_at : List Spot → ℕ → Spot
spot_at list i = get_or list i (framed_at (record { file = 0; page = 0 }) (record { 0 = 0 }))

-- its place, as the page cache tells it
abbrev pub place_at : Residence → Place
place_at (Framed n) = Frame n
place_at (Slotted k) = Slot k

-- the bytes that lie there
abbrev pub bytes_there : FrameTable → SlotTable → Residence → List ℕ
bytes_there t s (Framed n) = bytes_of t n.0
bytes_there t s (Slotted k) = s.bytes k.0

-- a frame of this memory, or a slot in use
abbrev pub IsThere : FrameTable → SlotTable → Residence → Type 0
IsThere t s (Framed n) = IsFrame t n.0
IsThere t s (Slotted k) = IsInUse s k.0

abbrev pub IsSlotted : Residence → Type 0
IsSlotted (Framed n) = ⊥
IsSlotted (Slotted k) = Unit {0}

-- some page of the list lies in a slot
abbrev pub HasSlot : List Spot → Type 0
HasSlot list = (i : ℕ) × (i < length list) × IsSlotted (spot_at list i).at

-- a sector of that slot
abbrev pub IsSectorThere : Residence → ℕ → Type 0
IsSectorThere (Framed n) k = ⊥
IsSectorThere (Slotted s) k = IsSectorOfSlot s.0 k

-- a sector of a slot that a page of the list lies in
abbrev pub IsSectorOfSpots : List Spot → ℕ → Type 0
IsSectorOfSpots list k = (i : ℕ) × (i < length list) × IsSectorThere (spot_at list i).at k

-- memory is fit, and the file page touched in it, so that it lies in a frame or a slot
module _ {mode : ℕ} where
  pub record HoldsTouched (c : Picture mode) (page : FilePage) : Type 0 where
    pub fit : IsFit c
    pub touched : c.touched (File page) ≡ true

-- the file page lies there
module _ {mode : ℕ} where
  pub record IsSpot (c : Picture mode) (spot : Spot) : Type 0 where
    pub placed : c.place (File spot.page) ≡ place_at spot.at
    pub there : IsThere c.frames c.slots spot.at

-- file pages that lie there, each once
module _ {mode : ℕ} where
  pub record AreSpots (c : Picture mode) (list : List Spot) : Type 0 where
    pub each : (i : ℕ) → i < length list → IsSpot c (spot_at list i)
    pub once : (i j : ℕ) → i < j → j < length list → (spot_at list i).page ≢ (spot_at list j).page

-- the pages of a list with the places that they lie in, of 4,096 bytes each
module _ {mode : ℕ} where
  pub record HasSpots (c : Picture mode) (pages : List FilePage) (list : List Spot) : Type 0 where
    pub count : length list ≡ length pages
    pub same : (i : ℕ) → i < length pages → (spot_at list i).page ≡ chosen_page pages i
    pub spots : (i : ℕ) → i < length pages → IsSpot c (spot_at list i)
    pub whole : (i : ℕ) → i < length pages → length (bytes_there c.frames c.slots (spot_at list i).at) ≡ 4096

module _ {E : Type 0} (h : Ghosts E) where
  -- Slots of pages of the list were read: what slots hold, and who has them, is as it was. The device was asked for no other slot, and not
  -- at all where no page of the list lies in one.
  pub record ReadsSwap (list : List Spot) (old new : Swap E) : Type 0 where
    pub ready : IsReady h old → IsReady h new
    pub slots : slots_of new ≡ slots_of old
    pub size : h.sector_count new.pages.disk ≡ h.sector_count old.pages.disk
    pub kept : h.keeps_model new.pages.disk → h.keeps_model old.pages.disk
    pub later : h.failures old.pages.disk ≤ h.failures new.pages.disk
    pub only : (new ≡ old) ⊎ HasSlot list
    pub asks : AsksOnly h (IsSectorOfSpots list) old.pages.disk new.pages.disk
