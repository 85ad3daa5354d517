-- What the steps of the calls change.
use Rattle.vm_types.specs.declared.mode.Levels as Levels
use Rattle.std.specs.Prelude.{◌≡◌, ◌≢◌, ℕ, ◌+◌, ◌*◌, ◌/◌, ◌^◌, ◌<◌, ◌≤◌, ◌⊎◌, ◌↔◌, min, max, Option, Some, None}
use Rattle.vm_types.specs.Limits.{top_level, table_entries}
use Rattle.vm_types.specs.declared.object.ObjectPage.{ObjectPage}
use Rattle.vm_types.specs.declared.object.PageKey.{PageKey}
use Rattle.vm_types.specs.declared.object.PageKey.TheVariants.{Object}
use Rattle.page_cache.specs.declared.place.Place.TheVariants.{Slot}
use Rattle.frames.specs.declared.role.Role.TheVariants.{Free, Private}
use Rattle.frames.specs.FrameTable.{FrameTable, role_of}
use Rattle.swap.specs.Slots.{SlotTable, IsInUse}
use Rattle.page_tables.specs.Tree.{IsPage, IsTable, Points, IsBelowRoot, missing_of}
use Rattle.page_tables.specs.Places.{IsTableOf}
use Rattle.residency.specs.declared.kernel.Core.{Core}
use Rattle.residency.specs.Seats.{Seat, InSlot, seat}
use Rattle.residency.specs.Picture.{Picture, entry, view, held, IsOwned}
use Rattle.residency.specs.Parts.{IsUsed, IsMapped, IsFitBut, IsFit}
use Rattle.residency.specs.Ways.{IsWhole}

-- a page that isn't one of a process from low up to, not including, high
abbrev pub IsBeside : ℕ → ℕ → ℕ → ℕ → ℕ → Type 0
IsBeside pid low high q page = (q ≢ pid) ⊎ ((page < low) ⊎ (high ≤ page))

-- nothing but frames and slots changed
module _ {mode : ℕ} where
  pub record SameButMemory (old new : Picture mode) : Type 0 where
    pub root : (q : ℕ) → new.root q ≡ old.root q
    pub at : (q page : ℕ) → new.at q page ≡ old.at q page
    pub page_of : (n : ℕ) → new.page_of n ≡ old.page_of n
    pub place : (p : PageKey) → new.place p ≡ old.place p
    pub touched : (p : PageKey) → new.touched p ≡ old.touched p
    pub files : (f : ℕ) → new.files f ≡ old.files f

module _ {M : Type 0} {m : Levels.Ghosts M} {D E : Type 0} where
  -- all but frames and the share counts of slots is as it was
  pub record KeepsBesideMemory (old new : Core D E M m) : Type 0 where
    pub store : new.store ≡ old.store
    pub pages : new.swap.pages ≡ old.swap.pages
    pub cache : new.cache ≡ old.cache
    pub roots : new.roots ≡ old.roots
    pub regions : new.regions ≡ old.regions
    pub clock : new.clock ≡ old.clock
    pub page_of : new.page_of ≡ old.page_of

  -- a call that asks neither device
  pub record KeepsDevices (old new : Core D E M m) : Type 0 where
    pub store : new.store ≡ old.store
    pub pages : new.swap.pages ≡ old.swap.pages

-- every page of every other process has the entry that it had
module _ {mode : ℕ} where
  abbrev pub KeepsEntriesOfOthers : Picture mode → Picture mode → ℕ → Type 0
  KeepsEntriesOfOthers old new pid = (q page : ℕ) → IsPage (top_level mode) page → q ≢ pid → entry new q page ≡ entry old q page

-- the same frames are tables, with the same pointers
pub record SameTables (old new : FrameTable) : Type 0 where
  pub tables : (n : ℕ) → IsTable old n ↔ IsTable new n
  pub pointers : (n i m : ℕ) → Points old n i m ↔ Points new n i m

-- Tables of one process may have been given back, and no other ones: a table stays one, or it is free and lay below the
-- process's root. No frame that was free is used, none comes to hold an own copy, and no table points where none did.
module _ {mode : ℕ} where
  pub record ReturnsTables (old new : Picture mode) (pid : ℕ) : Type 0 where
    pub tables : (n : ℕ) → IsTable old.frames n → IsTable new.frames n
        ⊎ ((role_of new.frames n ≡ Free) × ((r : ℕ) × (page : ℕ) × (old.root pid ≡ Some r) × IsBelowRoot old.frames (top_level mode) r page n))
    pub free : (n : ℕ) → role_of old.frames n ≡ Free → role_of new.frames n ≡ Free
    pub copies : (n : ℕ) → role_of new.frames n ≡ Private → role_of old.frames n ≡ Private
    pub pointers : (n i m : ℕ) → Points new.frames n i m → Points old.frames n i m

-- The same, and each table that was given back lay on the way to one of the pages from low up to, not including, high.
module _ {mode : ℕ} where
  pub record ReturnsRowTables (old new : Picture mode) (pid low high : ℕ) : Type 0 where
    pub tables : (n : ℕ) → IsTable old.frames n → IsTable new.frames n
        ⊎ ((role_of new.frames n ≡ Free)
        × ((r : ℕ) × (page : ℕ) × (old.root pid ≡ Some r) × IsBelowRoot old.frames (top_level mode) r page n × (low ≤ page) × (page < high)))
    pub free : (n : ℕ) → role_of old.frames n ≡ Free → role_of new.frames n ≡ Free
    pub copies : (n : ℕ) → role_of new.frames n ≡ Private → role_of old.frames n ≡ Private
    pub pointers : (n i m : ℕ) → Points new.frames n i m → Points old.frames n i m

-- Of slots, the shares were given back that a process's own copies of the pages from low up to, not including, high had, one
-- for each. No other slot has another share count, and each slot that is still in use has its bytes.
module _ {mode : ℕ} where
  pub record ReturnsSlots (old new : Picture mode) (pid low high : ℕ) : Type 0 where
    pub total : new.slots.total ≡ old.slots.total
    pub fewer : (k : ℕ) → new.slots.count k ≤ old.slots.count k
    pub given : (k page : ℕ) → IsPage (top_level mode) page → low ≤ page → page < high → seat (entry old pid page) ≡ Some (InSlot k)
        → new.slots.count k + 1 ≡ old.slots.count k
    pub kept : (k : ℕ) → ((page : ℕ) → IsPage (top_level mode) page → low ≤ page → page < high → seat (entry old pid page) ≢ Some (InSlot k))
        → new.slots.count k ≡ old.slots.count k
    pub bytes : (k : ℕ) → IsInUse new.slots k → new.slots.bytes k ≡ old.slots.bytes k

-- The same, and slots that held pages of objects may have been given back too.
module _ {mode : ℕ} where
  pub record LosesSlots (old new : Picture mode) (pid low high : ℕ) : Type 0 where
    pub total : new.slots.total ≡ old.slots.total
    pub fewer : (k : ℕ) → new.slots.count k ≤ old.slots.count k
    pub kept : (k : ℕ) → ((page : ℕ) → IsPage (top_level mode) page → low ≤ page → page < high → seat (entry old pid page) ≢ Some (InSlot k))
        → ((p : ObjectPage) → old.place (Object p) ≢ Slot (record { 0 = k })) → new.slots.count k ≡ old.slots.count k
    pub bytes : (k : ℕ) → IsInUse new.slots k → new.slots.bytes k ≡ old.slots.bytes k

-- those pages have no entries now, and every other page is as it was
module _ {mode : ℕ} where
  pub record Clears (old new : Picture mode) (pid low high : ℕ) : Type 0 where
    pub beside : SameButMemory old new
    pub returned : ReturnsRowTables old new pid low high
    pub slots : ReturnsSlots old new pid low high
    pub gone : (page : ℕ) → IsPage (top_level mode) page → low ≤ page → page < high → entry new pid page ≡ 0
    pub kept : (q page : ℕ) → IsPage (top_level mode) page → IsBeside pid low high q page → entry new q page ≡ entry old q page
    pub views : (q page : ℕ) → IsBeside pid low high q page → view new q page ≡ view old q page
    pub held : (p : PageKey) → held new p ≡ held old p

-- a page that its process has mapped, and that isn't one of a process from low up to, not including, high
module _ {mode : ℕ} where
  abbrev pub IsMappedBeside : Picture mode → ℕ → ℕ → ℕ → ℕ → ℕ → Type 0
  IsMappedBeside c pid low high q page = IsMapped c q page × IsBeside pid low high q page

-- no table is kept for those pages alone: each is a root, or lies on the way to another page that its process has mapped
module _ {mode : ℕ} where
  abbrev pub IsWithoutTables : Picture mode → ℕ → ℕ → ℕ → Type 0
  IsWithoutTables c pid low high = (m : ℕ) → IsTable c.frames m → IsUsed c (IsMappedBeside c pid low high) m

-- those pages have neither entries nor tables that are kept for them alone
module _ {mode : ℕ} where
  pub record IsCleared (c : Picture mode) (pid low high : ℕ) : Type 0 where
    pub none : (page : ℕ) → IsPage (top_level mode) page → low ≤ page → page < high → entry c pid page ≡ 0
    pub tables : IsWithoutTables c pid low high

-- memory fits, but that no entry names one of the shares of that seat; where there is no seat it fits
module _ {mode : ℕ} where
  abbrev pub LacksHolder : Picture mode → Option Seat → Type 0
  LacksHolder c None = IsFit c
  LacksHolder c (Some y) = IsFitBut c y 1 0 × IsOwned c y

-- of slots one share was given back at most: that of the seat, if it is a slot
pub record ReturnsShare (old new : SlotTable) (share : Option Seat) : Type 0 where
  pub total : new.total ≡ old.total
  pub fewer : (k : ℕ) → new.count k ≤ old.count k
  pub given : (k : ℕ) → share ≡ Some (InSlot k) → new.count k + 1 ≡ old.count k
  pub kept : (k : ℕ) → share ≢ Some (InSlot k) → new.count k ≡ old.count k
  pub bytes : (k : ℕ) → IsInUse new k → new.bytes k ≡ old.bytes k

-- The share of a seat, if any, was given back: every entry is the same number, no page is seen otherwise, and all tables are
-- as they were.
module _ {mode : ℕ} where
  pub record ReturnsSeat (old new : Picture mode) (share : Option Seat) : Type 0 where
    pub beside : SameButMemory old new
    pub entries : (q page : ℕ) → entry new q page ≡ entry old q page
    pub views : (q page : ℕ) → view new q page ≡ view old q page
    pub held : (p : PageKey) → held new p ≡ held old p
    pub tables : SameTables old.frames new.frames
    pub rows : (q r row n : ℕ) → old.root q ≡ Some r → IsTableOf old.frames (top_level mode) r row n → IsTableOf new.frames (top_level mode) r row n
    pub free : (n : ℕ) → role_of old.frames n ≡ Free → role_of new.frames n ≡ Free
    pub copies : (n : ℕ) → role_of new.frames n ≡ Private → role_of old.frames n ≡ Private
    pub slots : ReturnsShare old.slots new.slots share

-- tables are missing on the way to a page, and there end the pages that the highest of them would hold
module _ {mode : ℕ} where
  abbrev pub IsGapEnd : Picture mode → ℕ → ℕ → ℕ → Type 0
  IsGapEnd c pid page end =
      (r : ℕ) → c.root pid ≡ Some r
      → (missing_of c.frames (top_level mode) r page ≢ 0) × (end ≡ (page / table_entries ^ missing_of c.frames (top_level mode) r page + 1) * table_entries ^ missing_of c.frames (top_level mode) r page)

-- Where a table is missing on the way to a page: the next page has fewer missing, or it isn't before the end, or not before that of
-- the pages whose way goes through the table above the missing one.
module _ (mode : ℕ) where
  abbrev pub IsPastGap : FrameTable → ℕ → ℕ → ℕ → ℕ → Type 0
  IsPastGap t root page end next =
      (missing_of t (top_level mode) root next < missing_of t (top_level mode) root page)
      ⊎ (min end ((page / table_entries ^ (missing_of t (top_level mode) root page + 1) + 1) * table_entries ^ (missing_of t (top_level mode) root page + 1)) ≤ next)

-- Where a step over a row of pages ends that began at one of them: with the pages of the highest table that is missing on the
-- way, or of the lowest table where none is, or with the row. So a row costs the tables that it meets.
module _ {mode : ℕ} where
  abbrev pub IsStepEnd : Picture mode → ℕ → ℕ → ℕ → ℕ → Type 0
  IsStepEnd c pid page end next =
      (r : ℕ) → c.root pid ≡ Some r
      → next ≡ min end ((page / table_entries ^ max 1 (missing_of c.frames (top_level mode) r page) + 1) * table_entries ^ max 1 (missing_of c.frames (top_level mode) r page))

-- Where a step over a row of pages ends that passes those on whose way a table is missing: it goes on to the first page from one
-- on, and before the end, that lacks none, and ends with the pages of that page's lowest table, or with the row. So a row costs
-- the tables that it meets, and not its pages.
module _ {mode : ℕ} where
  pub record IsLinkedStepEnd (c : Picture mode) (pid page end next : ℕ) : Type 0 where
    pub linked : ℕ
    pub from : page ≤ linked
    pub passed : (p : ℕ) → page ≤ p → p < linked → IsWhole c pid p → ⊥
    pub ends : ((linked ≡ end) × (next ≡ end)) ⊎ (IsWhole c pid linked × (next ≡ min end ((linked / table_entries + 1) * table_entries)))
