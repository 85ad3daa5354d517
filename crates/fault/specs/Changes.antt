-- What the calls on one page's entry need and leave.
use Rattle.vm_types.specs.declared.mode.Levels as Levels
use Rattle.std.specs.Prelude.{Bool, ◌&&◌, ◌==◌, ◌≡◌, ◌≢◌, ℕ, ◌≤◌, ◌/◌, ◌⊎◌, true, if◌then◌else◌, List, Option, Some, None}
use Rattle.vm_types.specs.Limits.{top_level, table_entries}
use Rattle.vm_types.specs.declared.object.PageKey.{PageKey}
use Rattle.vm_types.specs.declared.object.PageKey.TheVariants.{File, Object}
use Rattle.vm_types.specs.declared.number.FrameNo.{FrameNo}
use Rattle.vm_types.specs.declared.number.SlotNo.{SlotNo}
use Rattle.vm_types.specs.declared.region.Attr.{Attr}
use Rattle.vm_types.specs.declared.region.Backing.{Backing}
use Rattle.vm_types.specs.declared.region.Backing.TheVariants.{Anon, Private, Shared, Common}
use Rattle.disk_model.specs.declared.sector_disk.SectorDisk.{Ghosts}
use Rattle.frames.specs.declared.role.Role.TheVariants as Role
use Rattle.frames.specs.FrameTable.{frame_count, bytes_of, role_of, count_of, IsFrame}
use Rattle.sv39_walk.specs.Entry.{frame_of}
use Rattle.page_tables.specs.Tree.{IsPage, IsTable, IsBelowRoot, Points, missing_of}
use Rattle.page_tables.specs.Places.{IsTableOf}
use Rattle.page_tables.specs.Change.{KeepsFrames}
use Rattle.page_cache.specs.declared.place.Place.{Place}
use Rattle.page_cache.specs.declared.place.Place.TheVariants.{Home, Frame, Slot}
use Rattle.swap.specs.Slots.{IsReady}
use Rattle.residency.specs.declared.kernel.Core.{Core}
use Rattle.residency.specs.Picture.{Picture, picture_of, entry, is_private, is_swapped, view}
use Rattle.residency.specs.Parts.{IsFit}
use Rattle.residency.specs.Calls.{Frees, UsesDevice}
use Rattle.residency.specs.Steps.{ChangesFrame}
use Rattle.residency.specs.Ways.{IsWhole}
use Rattle.fault.specs.declared.spot.Spot.{Spot}

-- a page of a live process, on whose way no table is missing
module _ {mode : ℕ} where
  pub record IsLinked (c : Picture mode) (pid page : ℕ) : Type 0 where
    pub fit : IsFit c
    pub lives : c.root pid ≢ None
    pub whole : IsWhole c pid page

-- the page's entry stands in that table of the tree of that root, which is its process's
module _ {mode : ℕ} where
  pub record StandsAt (c : Picture mode) (spot : Spot) : Type 0 where
    pub linked : IsLinked c spot.pid spot.page
    pub root : c.root spot.pid ≡ Some spot.root.0
    pub table : IsTableOf c.frames (top_level mode) spot.root.0 (spot.page / table_entries) spot.table.0

-- where the entries of a row stand in the tree of a process, they still do
module _ {mode : ℕ} where
  abbrev pub KeepsRows : Picture mode → Picture mode → Type 0
  KeepsRows old new = (pid r row n : ℕ) → old.root pid ≡ Some r → IsTableOf old.frames (top_level mode) r row n → IsTableOf new.frames (top_level mode) r row n

-- no table came to be missing
module _ {mode : ℕ} where
  abbrev pub KeepsTables : Picture mode → Picture mode → Type 0
  KeepsTables old new = (pid r page : ℕ) → old.root pid ≡ Some r → missing_of new.frames (top_level mode) r page ≤ missing_of old.frames (top_level mode) r page

-- table n lies below the root of a process on the way to a page of it
module _ {mode : ℕ} where
  abbrev pub IsTableOnWay : Picture mode → ℕ → ℕ → ℕ → Type 0
  IsTableOnWay c pid page n = (r : ℕ) × (c.root pid ≡ Some r) × IsBelowRoot c.frames (top_level mode) r page n

-- each frame that came to be a table is one on the way to that page
module _ {mode : ℕ} where
  abbrev pub LinksTables : Picture mode → Picture mode → ℕ → ℕ → Type 0
  LinksTables old new pid page = (n : ℕ) → IsTable new.frames n → IsTable old.frames n ⊎ IsTableOnWay new pid page n

-- no frame came to be a table, and every pointer to a table stands
module _ {mode : ℕ} where
  pub record AddsNoTable (old new : Picture mode) : Type 0 where
    pub tables : (n : ℕ) → IsTable new.frames n → IsTable old.frames n
    pub pointers : (n i m : ℕ) → Points old.frames n i m → Points new.frames n i m

-- a page that had no entry has none
module _ {mode : ℕ} where
  abbrev pub KeepsBare : Picture mode → Picture mode → Type 0
  KeepsBare old new = (pid page : ℕ) → IsPage (top_level mode) page → entry old pid page ≡ 0 → entry new pid page ≡ 0

-- every page but one that had no entry has none
module _ {mode : ℕ} where
  abbrev pub KeepsOtherBare : Picture mode → Picture mode → ℕ → ℕ → Type 0
  KeepsOtherBare old new pid page = (q p : ℕ) → IsPage (top_level mode) p → (q ≢ pid) ⊎ (p ≢ page) → entry old q p ≡ 0 → entry new q p ≡ 0

-- that page of that process
abbrev pub IsThatPage : ℕ → ℕ → ℕ → ℕ → Type 0
IsThatPage pid page q p = (q ≡ pid) × (p ≡ page)

-- What lies in a slot stays there, but for these pages of files and objects, and for the own copies of these pages of processes.
module _ {mode : ℕ} where
  pub record KeepsSlotted (files : PageKey → Type 0) (own : ℕ → ℕ → Type 0) (old new : Picture mode) : Type 0 where
    pub file_pages : (p : PageKey) (k : SlotNo) → old.place p ≡ Slot k → files p ⊎ (new.place p ≡ Slot k)
    pub copies : (q p : ℕ) → IsPage (top_level mode) p → is_swapped (entry old q p) ≡ true → own q p ⊎ (entry new q p ≡ entry old q p)

-- the same processes live, with the same regions
module _ {mode : ℕ} where
  pub record KeepsSpaces (old new : Picture mode) : Type 0 where
    pub root : (pid : ℕ) → new.root pid ≡ old.root pid
    pub at : (pid page : ℕ) → new.at pid page ≡ old.at pid page

-- memory and swap are as many as they were
module _ {mode : ℕ} where
  pub record KeepsRoom (old new : Picture mode) : Type 0 where
    pub frames : frame_count new.frames ≡ frame_count old.frames
    pub slots : new.slots.total ≡ old.slots.total

-- each page of a file or an object that was touched still is touched
module _ {mode : ℕ} where
  abbrev pub KeepsTouched : Picture mode → Picture mode → Type 0
  KeepsTouched old new = (p : PageKey) → old.touched p ≡ true → new.touched p ≡ true

-- every page is seen as it was
module _ {mode : ℕ} where
  abbrev pub KeepsViews : Picture mode → Picture mode → Type 0
  KeepsViews old new = (pid page : ℕ) → view new pid page ≡ view old pid page

-- every page but one is seen as it was
module _ {mode : ℕ} where
  abbrev pub KeepsOtherViews : Picture mode → Picture mode → ℕ → ℕ → Type 0
  KeepsOtherViews old new pid page = (q p : ℕ) → (q ≢ pid) ⊎ (p ≢ page) → view new q p ≡ view old q p

-- no process sees a change, and no page of a file or an object became touched or clean
module _ {mode : ℕ} where
  pub record KeepsSeen (old new : Picture mode) : Type 0 where
    pub views : (q k : ℕ) → view new q k ≡ view old q k
    pub touched : (p : PageKey) → new.touched p ≡ old.touched p

-- whether the process with that entry is the only one to have its private frame
module _ {mode : ℕ} where
  abbrev pub is_sole : Picture mode → ℕ → Bool
  is_sole c e = is_private e && (count_of c.frames (frame_of e) == 1)

-- the frame of a page of a file or an object at that place
abbrev pub frame_of_place : Place → ℕ
frame_of_place Home = 0
frame_of_place (Frame n) = n.0
frame_of_place (Slot n) = 0

-- the frame that holds what stands behind a page, where it is in memory: the zero page, or that of the page of a file or an object
module _ {mode : ℕ} where
  abbrev pub frame_behind : Picture mode → Backing → ℕ
  frame_behind c Anon = 0
  frame_behind c (Private p) = frame_of_place (c.place (File p))
  frame_behind c (Shared p) = frame_of_place (c.place (File p))
  frame_behind c (Common p) = frame_of_place (c.place (Object p))

-- the frame whose bytes a page shows
module _ {mode : ℕ} where
  abbrev pub shown_frame : Picture mode → ℕ → Backing → ℕ
  shown_frame c e backing = if is_private e then frame_of e else frame_behind c backing

-- the frame that is kept while a frame is asked for that a page is copied into: the one whose bytes the page shows
module _ {mode : ℕ} where
  abbrev pub copied_frame : Picture mode → ℕ → ℕ → Attr → Option FrameNo
  copied_frame c pid page attr = Some (record { 0 = shown_frame c (entry c pid page) attr.backing })

-- the bytes that a page shows, where they are in memory
module _ {mode : ℕ} where
  abbrev pub shown_bytes : Picture mode → ℕ → ℕ → Attr → List ℕ
  shown_bytes c pid page attr = bytes_of c.frames (shown_frame c (entry c pid page) attr.backing)

-- the page of a file or an object, which lies in a frame, is among the touched ones, and no other came, went or changed
module _ {mode : ℕ} where
  pub record MarksTouched (old new : Picture mode) (page : PageKey) : Type 0 where
    pub place : (p : PageKey) → new.place p ≡ old.place p
    pub bytes : (p : PageKey) (n : FrameNo) → old.place p ≡ Frame n → bytes_of new.frames n.0 ≡ bytes_of old.frames n.0
    pub touched : new.touched page ≡ true
    pub others : (p : PageKey) → p ≢ page → new.touched p ≡ old.touched p
    pub files : (f : ℕ) → new.files f ≡ old.files f

-- A frame was obtained, but not frame m, and taken for one page, at which its process will have it, with the bytes of frame m.
-- No entry names it yet.
module _ {mode : ℕ} where
  pub record TakesCopy (old new : Picture mode) (n page m : ℕ) : Type 0 where
    pub found : Picture mode
    pub fit : IsFit found
    pub frees : Frees old found (Some (record { 0 = m }))
    pub changes : ChangesFrame found new n
    pub inside : IsFrame new.frames n
    pub role : role_of new.frames n ≡ Role.Private
    pub count : count_of new.frames n ≡ 1
    pub noted : new.page_of n ≡ page
    pub copied : bytes_of new.frames n ≡ bytes_of old.frames m

module _ {M : Type 0} {m : Levels.Ghosts M} {D E : Type 0} where
  -- No frame was asked for and none changed hands, no device was asked, every pointer to a table stands, and no page but that one has
  -- another entry.
  pub record IsCalm (old new : Core D E M m) (pid page : ℕ) : Type 0 where
    pub store : new.store ≡ old.store
    pub swap : new.swap ≡ old.swap
    pub refused : new.refused.number ≡ old.refused.number
    pub frames : KeepsFrames old.frames new.frames
    pub pointers : (n i m : ℕ) → Points old.frames n i m → Points new.frames n i m
    pub place : (p : PageKey) → (picture_of new).place p ≡ (picture_of old).place p
    pub others : (q p : ℕ) → IsPage (top_level m.mode) p → (q ≢ pid) ⊎ (p ≢ page) → entry (picture_of new) q p ≡ entry (picture_of old) q p

  -- Only one page's entry changed, and perhaps which pages of files and objects are touched: every page is seen as it was.
  pub record Enters (old new : Core D E M m) (pid page : ℕ) : Type 0 where
    pub fit : IsFit (picture_of new)
    pub spaces : KeepsSpaces (picture_of old) (picture_of new)
    pub tables : KeepsTables (picture_of old) (picture_of new)
    pub views : KeepsViews (picture_of old) (picture_of new)
    pub calm : IsCalm old new pid page

module _ {M : Type 0} {m : Levels.Ghosts M} {E : Type 0} (h : Ghosts E) where
  module _ {D : Type 0} where
    -- frames may have been given up, and the swap device was read and written
    pub record Moves (old new : Core D E M m) : Type 0 where
      pub fit : IsFit (picture_of new)
      pub swap : IsReady h new.swap
      pub spaces : KeepsSpaces (picture_of old) (picture_of new)
      pub tables : KeepsTables (picture_of old) (picture_of new)
      pub room : KeepsRoom (picture_of old) (picture_of new)
      pub store : new.store ≡ old.store
      pub device : UsesDevice h old.swap.pages.disk new.swap.pages.disk
