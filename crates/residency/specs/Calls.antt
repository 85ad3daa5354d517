-- What the calls of this layer leave.
use Rattle.vm_types.specs.declared.mode.Levels as Levels
use Rattle.std.specs.Prelude.{◌≡◌, ◌≢◌, ℕ, ◌≤◌, ◌⊎◌, true, false, Option, None, Some, Result, IfOk, IfErr}
use Rattle.vm_types.specs.Limits.{top_level}
use Rattle.vm_types.specs.declared.object.PageKey.{PageKey}
use Rattle.vm_types.specs.declared.number.FrameNo.{FrameNo}
use Rattle.vm_types.specs.declared.refusal.Stall.{Stall}
use Rattle.vm_types.specs.declared.refusal.Stall.TheVariants.{NoFrames, NoSwap, SwapDevice, StoreDevice}
use Rattle.disk_model.specs.declared.sector_disk.SectorDisk.{Ghosts}
use Rattle.disk_model.specs.Moments.{AsksOnly, Nothing}
use Rattle.sized_stores.specs.declared.store.SizedStore.{SizedStore}
use Rattle.frames.specs.declared.role.Role.TheVariants.{Free, Table, Private}
use Rattle.frames.specs.FrameTable.{FrameTable, frame_count, bytes_of, role_of, count_of, IsFrame, IsFresh, IsFull}
use Rattle.page_cache.specs.CacheTable.{slot_count}
use Rattle.page_cache.specs.declared.place.Place.TheVariants.{Home, Frame, Slot}
use Rattle.page_tables.specs.Tree.{IsPage, Points, missing_of, last_table}
use Rattle.sv39_walk.specs.Entry.{frame_of}
use Rattle.swap.specs.declared.slots.Swap.{Swap}
use Rattle.swap.specs.Slots.{slots_of, IsInUse}
use Rattle.swap.specs.Slots as Slots
use Rattle.residency.specs.declared.kernel.Core.{Core}
use Rattle.residency.specs.Picture.{Picture, picture_of, view, entry, is_swapped, is_data}
use Rattle.residency.specs.Parts.{IsFit}
use Rattle.residency.specs.Shows.{KeepsFiles}
use Rattle.residency.specs.Steps.{SameBeside, TakesOwn, BringsIn}
use Rattle.residency.specs.Ages.{GivesFrame}
use Rattle.page_tables.specs.Change.{AddsTable}

-- so many frames, all free but the zero page, so many free slots, no process, and every page of a file or an object at home and untouched
module _ {M : Type 0} {m : Levels.Ghosts M} where
  pub record IsStart {D E : Type 0} (c : Core D E M m) (frames slots : ℕ) : Type 0 where
    pub fresh : IsFresh c.frames frames
    pub slots_are : slot_count c.cache ≡ slots
    pub slots_free : Slots.AreNewSlots (slots_of c.swap) slots
    pub none : (pid : ℕ) → (picture_of c).root pid ≡ None
    pub at_home : (p : PageKey) → (picture_of c).place p ≡ Home
    pub untouched : (p : PageKey) → (picture_of c).touched p ≡ false
    pub refused : c.refused.number ≡ 0

module _ {M : Type 0} {m : Levels.Ghosts M} {D E : Type 0} where
  -- Memory is taken of the host:
  pub record StartsCore {R : Type 0} (files : SizedStore D) (device : Swap E) (frames slots : ℕ) (result : Result (Core D E M m) (R × SizedStore D)) : Type 0 where
    -- it is fit and as at the start, over that store and those slots,
    pub fit : IfOk result (λ core. IsFit (picture_of core))
    pub start : IfOk result (λ core. IsStart core frames slots)
    pub store : IfOk result (λ core. core.store ≡ files)
    pub swap : IfOk result (λ core. core.swap ≡ device)
    -- or the host has not enough, and the store is handed back.
    pub err : IfErr result (λ e. e.1 ≡ files)

pub record IsFreeFrame (t : FrameTable) (n : ℕ) : Type 0 where
  pub inside : IsFrame t n
  pub free : role_of t n ≡ Free

-- every process has its pages, with the bytes that they show, and every page of a file or an object its bytes
module _ {mode : ℕ} where
  pub record KeepsPages (old new : Picture mode) : Type 0 where
    pub root : (pid : ℕ) → new.root pid ≡ old.root pid
    pub at : (pid page : ℕ) → new.at pid page ≡ old.at pid page
    pub views : (pid page : ℕ) → view new pid page ≡ view old pid page
    pub files : KeepsFiles old new

-- whether a frame is one that is to be kept
abbrev pub IsToKeep : Option FrameNo → ℕ → Type 0
IsToKeep None n = ⊥
IsToKeep (Some k) n = n ≡ k.0

-- an entry that names no frame which may be given up: no frame at all, the zero page, or the frame to keep
abbrev pub IsStaying : Option FrameNo → ℕ → Type 0
IsStaying keep e = (e ≡ 0) ⊎ ((is_swapped e ≡ true) ⊎ ((frame_of e ≡ 0) ⊎ IsToKeep keep (frame_of e)))

-- a frame needs a slot to be given up: it is private, or holds a touched page of a file or an object
module _ {mode : ℕ} where
  abbrev pub NeedsSlot : Picture mode → ℕ → Type 0
  NeedsSlot c n = (role_of c.frames n ≡ Private) ⊎ ((p : PageKey) × (c.place p ≡ Frame (record { 0 = n })) × (c.touched p ≡ true))

-- a page of a process or of a file lies in the frame, and it isn't to be kept
module _ {mode : ℕ} where
  abbrev pub IsSpareable : Picture mode → Option FrameNo → ℕ → Type 0
  IsSpareable c keep n = (is_data (role_of c.frames n) ≡ true) × (IsToKeep keep n → ⊥)

-- Frames may have been given up, but for one: no page is seen otherwise. Every table is where it was, and so is everything
-- that no frame holds. Of frames some are free now, and none is new.
module _ {mode : ℕ} where
  pub record Frees (old new : Picture mode) (keep : Option FrameNo) : Type 0 where
    pub pages : KeepsPages old new
    pub count : frame_count new.frames ≡ frame_count old.frames
    pub roles : (n : ℕ) → (role_of new.frames n ≡ role_of old.frames n) ⊎ ((role_of new.frames n ≡ Free) × (is_data (role_of old.frames n) ≡ true))
    pub missing : (pid r page : ℕ) → old.root pid ≡ Some r → missing_of new.frames (top_level mode) r page ≡ missing_of old.frames (top_level mode) r page
    pub ends : (pid r page : ℕ) → old.root pid ≡ Some r → last_table new.frames page (top_level mode) r ≡ last_table old.frames page (top_level mode) r
    pub pointers : (n i m : ℕ) → Points old.frames n i m → Points new.frames n i m
    pub entries : (pid page : ℕ) → IsPage (top_level mode) page → IsStaying keep (entry old pid page) → entry new pid page ≡ entry old pid page
    pub slots : (k : ℕ) → IsInUse old.slots k → (new.slots.bytes k ≡ old.slots.bytes k) × (new.slots.count k ≡ old.slots.count k)
    pub total : new.slots.total ≡ old.slots.total
    pub home : (p : PageKey) → old.place p ≡ Home → new.place p ≡ Home
    pub slotted : (p : PageKey) (k : ℕ) → old.place p ≡ Slot (record { 0 = k }) → new.place p ≡ Slot (record { 0 = k })
    pub kept_place : (p : PageKey) (n : ℕ) → IsToKeep keep n → old.place p ≡ Frame (record { 0 = n }) → new.place p ≡ Frame (record { 0 = n })
    pub kept_role : (n : ℕ) → IsToKeep keep n → role_of new.frames n ≡ role_of old.frames n
    pub kept_count : (n : ℕ) → IsToKeep keep n → count_of new.frames n ≡ count_of old.frames n
    pub kept_bytes : (n : ℕ) → IsToKeep keep n → role_of old.frames n ≢ Table → bytes_of new.frames n ≡ bytes_of old.frames n

-- A frame was obtained, and taken for one page. No other frame was given up for it, and none at all where one was free.
module _ {mode : ℕ} where
  pub record ObtainsOwn (old new : Picture mode) (keep : Option FrameNo) (n page : ℕ) : Type 0 where
    pub found : Picture mode
    pub fit : IsFit found
    pub frees : Frees old found keep
    pub gives : GivesFrame old found n
    pub needed : IsFull old.frames ⊎ (found ≡ old)
    pub own : TakesOwn found new n page

-- a frame was obtained, and taken for a table that is in no tree
module _ {mode : ℕ} where
  pub record ObtainsTable (old new : Picture mode) (n : ℕ) : Type 0 where
    pub found : Picture mode
    pub fit : IsFit found
    pub frees : Frees old found None
    pub adds : AddsTable found.frames new.frames (top_level mode) n
    pub beside : SameBeside found new
    pub zero_page : role_of found.frames 0 ≢ Table

-- A frame was obtained, and a page of a file or an object brought into it. No other frame was given up for it, and none at all
-- where one was free.
module _ {mode : ℕ} where
  pub record ObtainsCached (old new : Picture mode) (page : PageKey) (n : ℕ) : Type 0 where
    pub found : Picture mode
    pub fit : IsFit found
    pub frees : Frees old found None
    pub gives : GivesFrame old found n
    pub needed : IsFull old.frames ⊎ (found ≡ old)
    pub brings : BringsIn found new page n

-- why no frame was to be had, by what memory is as it is left
module _ {mode : ℕ} where
  abbrev pub Refuses : Picture mode → Option FrameNo → Stall → Type 0
  Refuses c keep NoFrames = IsFull c.frames × ((n : ℕ) → IsSpareable c keep n → ⊥)
  Refuses c keep NoSwap = IsFull c.frames × ((n : ℕ) × IsSpareable c keep n) × ((n : ℕ) → IsSpareable c keep n → NeedsSlot c n) × Slots.IsSwapFull c.slots
  Refuses c keep SwapDevice = Unit {0}
  Refuses c keep StoreDevice = ⊥

module _ {M : Type 0} {m : Levels.Ghosts M} {D E : Type 0} where
  -- all but memory and swap, and the count of refused requests, is as it was
  pub record KeepsRest (old new : Core D E M m) : Type 0 where
    pub store : new.store ≡ old.store
    pub roots : new.roots ≡ old.roots
    pub regions : new.regions ≡ old.regions

module _ {M : Type 0} {m : Levels.Ghosts M} {D E : Type 0} where
  -- all but memory, swap, the files and the count of refused requests is as it was
  pub record KeepsBesideFiles (old new : Core D E M m) : Type 0 where
    pub roots : new.roots ≡ old.roots
    pub regions : new.regions ≡ old.regions

  -- all but where pages of files and objects lie is as it was, the count of refused requests too
  pub record KeepsBesidePlaces (old new : Core D E M m) : Type 0 where
    pub store : new.store ≡ old.store
    pub pages : new.swap.pages ≡ old.swap.pages
    pub roots : new.roots ≡ old.roots
    pub regions : new.regions ≡ old.regions
    pub clock : new.clock ≡ old.clock
    pub page_of : new.page_of ≡ old.page_of
    pub refused : new.refused ≡ old.refused

  -- all but the processes is as it was, the count of refused requests too
  pub record KeepsBesideProcesses (old new : Core D E M m) : Type 0 where
    pub store : new.store ≡ old.store
    pub swap : new.swap ≡ old.swap
    pub frames : new.frames ≡ old.frames
    pub cache : new.cache ≡ old.cache
    pub clock : new.clock ≡ old.clock
    pub page_of : new.page_of ≡ old.page_of
    pub refused : new.refused ≡ old.refused

  -- all but the frames and the processes is as it was, the count of refused requests too
  pub record KeepsBesideTrees (old new : Core D E M m) : Type 0 where
    pub store : new.store ≡ old.store
    pub swap : new.swap ≡ old.swap
    pub cache : new.cache ≡ old.cache
    pub clock : new.clock ≡ old.clock
    pub page_of : new.page_of ≡ old.page_of
    pub refused : new.refused ≡ old.refused

module _ {M : Type 0} {m : Levels.Ghosts M} {D E : Type 0} (h : Ghosts E) where
  -- A frame was to be given up that needs a slot, and for that swap was asked.
  pub record GivesToSwap (old new : Core D E M m) (keep : Option FrameNo) (also : ℕ → Type 0) : Type 0 where
    -- no frame was free
    pub full : IsFull old.frames
    -- which frame: it holds a page, and isn't the one to keep
    pub frame : ℕ
    pub spareable : IsSpareable (picture_of old) keep frame
    -- it needs a slot, and one was free
    pub needs : NeedsSlot (picture_of old) frame
    pub room : Slots.IsSwapFull (picture_of old).slots → ⊥
    -- no other frame was given up
    pub alone : GivesFrame (picture_of old) (picture_of new) frame
    -- swap's device was asked for no sector but those of free slots, and those that the call asks for anyway
    pub asks : AsksOnly h (λ k. Slots.IsSectorOfFreeSlot (picture_of old).slots k ⊎ also k) old.swap.pages.disk new.swap.pages.disk

  -- swap is as it was, unless such a frame was to be given up
  abbrev pub AsksSwap : Core D E M m → Core D E M m → Option FrameNo → Type 0
  AsksSwap old new keep = (new.swap ≡ old.swap) ⊎ GivesToSwap old new keep Nothing

  -- swap's device was asked for no sector but these, unless such a frame was to be given up
  abbrev pub AsksSwapAlso : Core D E M m → Core D E M m → Option FrameNo → (ℕ → Type 0) → Type 0
  AsksSwapAlso old new keep also = AsksOnly h also old.swap.pages.disk new.swap.pages.disk ⊎ GivesToSwap old new keep also

  -- swap's device was asked for no sector but those of one slot, and these
  abbrev pub AsksOneSlot : Core D E M m → Core D E M m → (ℕ → Type 0) → Type 0
  AsksOneSlot old new also = (slot : ℕ) × AsksOnly h (λ k. Slots.IsSectorOfSlot slot k ⊎ also k) old.swap.pages.disk new.swap.pages.disk

module _ {E : Type 0} (g : Ghosts E) where
  -- a device that was read and written
  pub record UsesDevice (old new : E) : Type 0 where
    pub size : g.sector_count new ≡ g.sector_count old
    pub kept : g.keeps_model new → g.keeps_model old
    pub later : g.failures old ≤ g.failures new
