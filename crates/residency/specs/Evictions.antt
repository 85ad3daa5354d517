-- What the steps of an eviction leave.
use Rattle.vm_types.specs.declared.mode.Levels as Levels
use Rattle.std.specs.Prelude.{◌≡◌, ◌≢◌, ℕ, ◌+◌, ◌<◌, ◌≤◌, ◌⊎◌, true, Some, Option, Result, IfErr, OnOk, OnErr}
use Rattle.vm_types.specs.Limits.{top_level}
use Rattle.vm_types.specs.declared.object.PageKey.{PageKey}
use Rattle.vm_types.specs.declared.number.FrameNo.{FrameNo}
use Rattle.vm_types.specs.declared.refusal.Stall.{Stall}
use Rattle.vm_types.specs.declared.refusal.Stall.TheVariants.{SwapDevice}
use Rattle.disk_model.specs.declared.sector_disk.SectorDisk.{Ghosts}
use Rattle.disk_model.specs.Moments.{AsksOnly, Nothing}
use Rattle.frames.specs.declared.role.Role.TheVariants.{Free, Table, Private}
use Rattle.frames.specs.FrameTable.{frame_count, bytes_of, role_of, count_of, IsFrame}
use Rattle.sv39_walk.specs.Entry.{frame_of}
use Rattle.swap.specs.Slots.{slots_of, IsInUse, IsSwapFull, IsReady, IsSectorOfFreeSlot}
use Rattle.page_cache.specs.declared.place.Place.TheVariants.{Frame}
use Rattle.page_tables.specs.Tree.{IsPage, Points, last_table}
use Rattle.residency.specs.declared.kernel.Core.{Core}
use Rattle.residency.specs.declared.leaves.Change.TheVariants.{ClearAccessed}
use Rattle.residency.specs.Seats.{InSlot, is_swapped}
use Rattle.residency.specs.Picture.{Picture, picture_of, entry, IsOwned, is_data}
use Rattle.residency.specs.Parts.{IsFit, IsFitBut}
use Rattle.residency.specs.Calls.{AsksOneSlot, KeepsPages, IsSpareable, NeedsSlot, UsesDevice}
use Rattle.residency.specs.Leaves.{HasEntryOver}
use Rattle.residency.specs.Ages.{Ages, KeepsRoles}
use Rattle.residency.specs.Stalls.{HasStallCause}

-- slot k has a share for which no entry names it yet, at that page
module _ {mode : ℕ} where
  pub record HasShare (c : Picture mode) (k page : ℕ) : Type 0 where
    pub fit : IsFitBut c (InSlot k) 1 0
    pub owned : IsOwned c (InSlot k)
    pub noted : fit.counted.0 k ≡ page

-- Frame v is private, at that page, and slot k, which has its bytes, has a share for which no entry names it yet. With that
-- share they have no more than there are processes and one.
module _ {mode : ℕ} where
  pub record IsHanding (c : Picture mode) (v k page : ℕ) : Type 0 where
    pub share : HasShare c k page
    pub role : role_of c.frames v ≡ Private
    pub noted : c.page_of v ≡ page
    pub alike : c.slots.bytes k ≡ bytes_of c.frames v
    pub some : 0 < count_of c.frames v
    pub few : c.slots.count k + count_of c.frames v ≤ 65

-- No page is seen otherwise, and nothing but frame v, slot k, and what lies in that frame is elsewhere.
module _ {mode : ℕ} where
  pub record Spares (v k : ℕ) (old new : Picture mode) : Type 0 where
    pub pages : KeepsPages old new
    pub count : frame_count new.frames ≡ frame_count old.frames
    pub roles : (n : ℕ) → n ≢ v → role_of new.frames n ≡ role_of old.frames n
    pub role : (role_of new.frames v ≡ role_of old.frames v) ⊎ ((role_of new.frames v ≡ Free) × (is_data (role_of old.frames v) ≡ true))
    pub counts : (n : ℕ) → n ≢ v → count_of new.frames n ≡ count_of old.frames n
    pub bytes : (n : ℕ) → n ≢ v → role_of old.frames n ≢ Table → bytes_of new.frames n ≡ bytes_of old.frames n
    pub ends : (pid r page : ℕ) → old.root pid ≡ Some r → last_table new.frames page (top_level mode) r ≡ last_table old.frames page (top_level mode) r
    pub entries : (pid page : ℕ) → IsPage (top_level mode) page → (entry old pid page ≡ 0) ⊎ ((is_swapped (entry old pid page) ≡ true) ⊎ (frame_of (entry old pid page) ≢ v))
        → entry new pid page ≡ entry old pid page
    pub ages : (pid page : ℕ) → IsPage (top_level mode) page → Ages (λ n. n ≡ v) (entry old pid page) (entry new pid page)
    pub pointers : (n i m : ℕ) → Points old.frames n i m → Points new.frames n i m
    pub slots : (j : ℕ) → j ≢ k → IsInUse old.slots j → (new.slots.bytes j ≡ old.slots.bytes j) × (new.slots.count j ≡ old.slots.count j)
    pub total : new.slots.total ≡ old.slots.total
    pub place : (p : PageKey) → old.place p ≢ Frame (record { 0 = v }) → new.place p ≡ old.place p

-- the frame may be given up now: where that needs a slot, one is free
module _ {mode : ℕ} where
  abbrev pub IsEvictable : Picture mode → Option FrameNo → ℕ → Type 0
  IsEvictable c keep n = IsSpareable c keep n × (NeedsSlot c n → IsSwapFull c.slots → ⊥)

-- a leaf over the frame, which holds a page, has A
module _ {mode : ℕ} where
  abbrev pub IsAccessed : Picture mode → ℕ → Type 0
  IsAccessed c n = (is_data (role_of c.frames n) ≡ true) × HasEntryOver c ClearAccessed n

-- frame v is given up, or was to be: at most one slot is in use that wasn't
module _ {mode : ℕ} where
  abbrev pub GivesUp : ℕ → Picture mode → Picture mode → Type 0
  GivesUp v old new = (k : ℕ) × (IsInUse old.slots k → ⊥) × Spares v k old new

-- marks of accesses alone were cleared
module _ {mode : ℕ} where
  pub record ClearsMarks (old new : Picture mode) : Type 0 where
    pub roles : KeepsRoles old new
    pub entries : (pid page : ℕ) → IsPage (top_level mode) page → Ages (λ n. ⊥) (entry old pid page) (entry new pid page)
    pub pointers : (n i m : ℕ) → Points old.frames n i m → Points new.frames n i m

module _ {M : Type 0} {m : Levels.Ghosts M} {D E : Type 0} where
  -- a look at frames: bits that grant nothing were cleared
  pub record Looked (old new : Core D E M m) : Type 0 where
    pub store : new.store ≡ old.store
    pub swap : new.swap ≡ old.swap
    pub cache : new.cache ≡ old.cache
    pub roots : new.roots ≡ old.roots
    pub regions : new.regions ≡ old.regions
    pub refused : new.refused ≡ old.refused

  -- the store, the processes, the clock and the counts for contracts alone are as they were
  pub record KeepsPlain (old new : Core D E M m) : Type 0 where
    pub store : new.store ≡ old.store
    pub roots : new.roots ≡ old.roots
    pub regions : new.regions ≡ old.regions
    pub clock : new.clock ≡ old.clock
    pub refused : new.refused ≡ old.refused
    pub looks : new.looks ≡ old.looks

  -- The page of a frame goes home:
  pub record SendsHome (old new : Core D E M m) (victim : ℕ) : Type 0 where
    -- the frame is free,
    pub free : role_of new.frames victim ≡ Free
    -- memory is fit, nothing but that frame is elsewhere, and no slot is,
    pub fit : IsFit (picture_of new)
    pub spares : (k : ℕ) → Spares victim k (picture_of old) (picture_of new)
    -- and all but memory is as it was.
    pub plain : KeepsPlain old new
    pub swap : new.swap ≡ old.swap

module _ {M : Type 0} {m : Levels.Ghosts M} {D E : Type 0} (h : Ghosts E) where
  -- a frame of memory that is fit may be put into a slot: one is free
  pub record MayGoToSwap (c : Core D E M m) (n : ℕ) : Type 0 where
    pub fit : IsFit (picture_of c)
    pub swap : IsReady h c.swap
    pub inside : IsFrame c.frames n
    pub room : IsSwapFull (slots_of c.swap) → ⊥

  -- A frame that holds a page is given up:
  pub record Evicts {T : Type 0} (old new : Core D E M m) (victim : ℕ) (result : Result T Stall) : Type 0 where
    -- it is free,
    pub free : OnOk result (role_of new.frames victim ≡ Free)
    -- memory is fit, no page is seen otherwise, and one slot at most is in use that wasn't;
    pub fit : IsFit (picture_of new)
    pub gives : GivesUp victim (picture_of old) (picture_of new)
    pub plain : KeepsPlain old new
    -- swap is asked where the page has to be put into a slot, and for a free one alone, and may be used further;
    pub asked : (new.swap ≡ old.swap) ⊎ NeedsSlot (picture_of old) victim
    pub swap : IsReady h new.swap
    pub asks : AsksOnly h (IsSectorOfFreeSlot (slots_of old.swap)) old.swap.pages.disk new.swap.pages.disk
    pub one : OnOk result (AsksOneSlot h old new Nothing)
    pub device : UsesDevice h old.swap.pages.disk new.swap.pages.disk
    -- or its device failed, and each frame has the use that it had.
    pub still : OnErr result (KeepsRoles (picture_of old) (picture_of new))
    pub fault : IfErr result (λ stall. stall ≡ SwapDevice)
    pub cause : HasStallCause h old new result
