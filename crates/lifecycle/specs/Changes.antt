-- What the calls do to the processes. fork(2), exit(2).
use Rattle.std.specs.Prelude.{◌≡◌, ◌≢◌, ℕ, ◌+◌, ◌<◌, ◌≤◌, ◌⊎◌, true, false, Option, Some, None}
use Rattle.vm_types.specs.Limits.{top_level}
use Rattle.vm_types.specs.View.{View}
use Rattle.vm_types.specs.Capacity.{tables_of}
use Rattle.vm_types.specs.declared.object.PageKey.{PageKey}
use Rattle.vm_types.specs.declared.refusal.Stall.{Stall}
use Rattle.vm_types.specs.declared.refusal.Stall.TheVariants.{NoFrames, NoSwap, SwapDevice, StoreDevice}
use Rattle.frames.specs.declared.role.Role.TheVariants.{Free, Table, Private}
use Rattle.frames.specs.FrameTable.{FrameTable, frame_count, role_of, IsFull}
use Rattle.sv39_walk.specs.Entry.{is_valid, can_write}
use Rattle.page_tables.specs.Tree.{IsPage, IsTable, IsOnWay, missing_of}
use Rattle.residency.specs.Seats.{seat, is_private}
use Rattle.residency.specs.Picture.{Picture, is_live, is_data, entry, view}
use Rattle.residency.specs.Calls.{Refuses}
use Rattle.residency.specs.Capacity.{tables_over, copies_over, touched_file, stored_object}
use Rattle.residency.specs.Shows.{KeepsFiles}
use Rattle.residency.specs.Parts.{IsFit}
use Rattle.residency.specs.Ages.{Ages, IsGiven, GivesForTables}
use Rattle.fault.specs.Changes.{IsTableOnWay}
use Rattle.lifecycle.specs.Steps.{HasCopy, LacksTableForCopy}
use Rattle.lifecycle.specs.Shares.{lowered_entry, given_entry}

-- a process came, with these pages, and every other process is as it was
module _ {mode : ℕ} where
  pub record AddsProcess (old new : Picture mode) (pid : ℕ) (space : ℕ → Option View) : Type 0 where
    pub lives : is_live new pid ≡ true
    pub pages : (page : ℕ) → view new pid page ≡ space page
    pub others_live : (q : ℕ) → q ≢ pid → is_live new q ≡ is_live old q
    pub others : (q page : ℕ) → q ≢ pid → view new q page ≡ view old q page

-- a process went, and every other process is as it was
module _ {mode : ℕ} where
  pub record RemovesProcess (old new : Picture mode) (pid : ℕ) : Type 0 where
    pub gone : is_live new pid ≡ false
    pub pages : (page : ℕ) → view new pid page ≡ None
    pub others_live : (q : ℕ) → q ≢ pid → is_live new q ≡ is_live old q
    pub others : (q page : ℕ) → q ≢ pid → view new q page ≡ view old q page

-- every process is as it was
module _ {mode : ℕ} where
  pub record KeepsProcesses (old new : Picture mode) : Type 0 where
    pub live : (pid : ℕ) → is_live new pid ≡ is_live old pid
    pub views : (pid page : ℕ) → view new pid page ≡ view old pid page

-- A frame that was free, or that held a page of a process or of a file, is a table now, the root of that process. Every other
-- frame has the use that it had. No table came or went on the way to a page of another process.
module _ {mode : ℕ} where
  pub record TakesRoot (old new : Picture mode) (pid n : ℕ) : Type 0 where
    pub was_free : (role_of old.frames n ≡ Free) ⊎ (is_data (role_of old.frames n) ≡ true)
    pub table : role_of new.frames n ≡ Table
    pub root : new.root pid ≡ Some n
    pub others : (q : ℕ) → q ≢ pid → new.root q ≡ old.root q
    pub roles : (m : ℕ) → m ≢ n → role_of new.frames m ≡ role_of old.frames m
    pub frames : frame_count new.frames ≡ frame_count old.frames
    pub missing : (q r page : ℕ) → old.root q ≡ Some r → missing_of new.frames (top_level mode) r page ≡ missing_of old.frames (top_level mode) r page

-- no frame came to hold a page of a process's own
abbrev pub TakesNoCopy : FrameTable → FrameTable → Type 0
TakesNoCopy old new = (n : ℕ) → role_of new n ≡ Private → role_of old n ≡ Private

-- no frame is taken: each has the use that it had, or is free
abbrev pub TakesNoFrame : FrameTable → FrameTable → Type 0
TakesNoFrame old new = (n : ℕ) → (role_of new n ≡ role_of old n) ⊎ (role_of new n ≡ Free)

-- The tables of a process are free, its root and those below it, and every other table stays one. No free frame is used.
module _ {mode : ℕ} where
  pub record FreesTables (old new : Picture mode) (pid : ℕ) : Type 0 where
    pub own : (r page n : ℕ) → old.root pid ≡ Some r → IsOnWay old.frames (top_level mode) r page n → role_of new.frames n ≡ Free
    pub others : (n : ℕ) → IsTable old.frames n
        → IsTable new.frames n ⊎ ((r : ℕ) × (page : ℕ) × (old.root pid ≡ Some r) × IsOnWay old.frames (top_level mode) r page n)
    pub free : (n : ℕ) → role_of old.frames n ≡ Free → role_of new.frames n ≡ Free

-- A process without a page has those of another now, and none of them has an entry.
module _ {mode : ℕ} where
  pub record MapsAlike (old new : Picture mode) (parent child : ℕ) : Type 0 where
    pub root : (q : ℕ) → new.root q ≡ old.root q
    pub same : (page : ℕ) → new.at child page ≡ new.at parent page
    pub bare : (page : ℕ) → IsPage (top_level mode) page → entry new child page ≡ 0
    pub entries : (q page : ℕ) → entry new q page ≡ entry old q page
    pub views : (q page : ℕ) → q ≢ child → view new q page ≡ view old q page
    pub files : KeepsFiles old new

-- Each copy of the parent's own, in a frame or in a slot, is the child's too, by the same entry, and no other page of the child
-- has one. No leaf over such a frame lets stores through.
module _ {mode : ℕ} where
  pub record SharesCopies (c : Picture mode) (parent child : ℕ) : Type 0 where
    pub shared : (page : ℕ) → IsPage (top_level mode) page → seat (entry c parent page) ≢ None → entry c child page ≡ entry c parent page
    pub bare : (page : ℕ) → IsPage (top_level mode) page → seat (entry c parent page) ≡ None → entry c child page ≡ 0
    pub unwritten : (page : ℕ) → IsPage (top_level mode) page → is_private (entry c parent page) ≡ true → is_valid (entry c parent page) ≡ true → can_write (entry c parent page) ≡ false

-- Until the pages were shared entries lost A alone, or their frames, which were given up for tables; none did unless no frame is
-- free now. Then the child's were given from the parent's, which have no W since, and those of other processes stayed.
module _ {mode : ℕ} where
  pub record ForksEntries (old new : Picture mode) (parent child : ℕ) : Type 0 where
    pub aged : ℕ → ℕ → ℕ
    pub ages : (q page : ℕ) → IsPage (top_level mode) page → Ages (IsGiven old new None) (entry old q page) (aged q page)
    pub needed : IsFull new.frames ⊎ ((q page : ℕ) → IsPage (top_level mode) page → aged q page ≡ entry old q page)
    pub lowered : (page : ℕ) → IsPage (top_level mode) page → entry new parent page ≡ lowered_entry (aged parent page)
    pub given : (page : ℕ) → IsPage (top_level mode) page → entry new child page ≡ given_entry (aged parent page)
    pub others : (q page : ℕ) → q ≢ parent → q ≢ child → IsPage (top_level mode) page → entry new q page ≡ aged q page

-- Frames became tables of the child: its root, or one on the way to a page of which the parent has a copy of its own. Some were
-- given up for that, none unless no frame is free now. Of other frames none has another use.
module _ {mode : ℕ} where
  pub record TakesTables (old new : Picture mode) (parent child : ℕ) : Type 0 where
    pub roles : (n : ℕ) → (role_of new.frames n ≡ role_of old.frames n)
        ⊎ ((role_of new.frames n ≡ Table) × ((role_of old.frames n ≡ Free) ⊎ (is_data (role_of old.frames n) ≡ true)))
    pub linked : (n : ℕ) → IsTable new.frames n
        → IsTable old.frames n ⊎ ((new.root child ≡ Some n) ⊎ ((page : ℕ) × HasCopy old parent page × IsTableOnWay new child page n))
    pub needed : IsFull new.frames ⊎ ((n : ℕ) → is_data (role_of old.frames n) ≡ true → role_of new.frames n ≡ role_of old.frames n)

-- Why and how a fork stalled, by memory as it was when a frame was refused.
module _ {mode : ℕ} where
  pub record StallsToFork (old new : Picture mode) (parent child : ℕ) (stall : Stall) : Type 0 where
    pub asked : Picture mode
    pub fit : IsFit asked
    -- until then frames became the child's tables alone, and some were given up for that
    pub tried : Option ℕ
    pub gives : GivesForTables old asked tried
    pub linked : (n : ℕ) → IsTable asked.frames n
        → IsTable old.frames n ⊎ ((asked.root child ≡ Some n) ⊎ ((page : ℕ) × HasCopy old parent page × IsTableOnWay asked child page n))
    -- the child had no root, or lacked a table on the way to a page of which the parent has a copy of its own
    pub lacking : (asked.root child ≡ None) ⊎ LacksTableForCopy asked parent child
    -- no frame was free, and none was to be had, whatever page it holds
    pub full : IsFull asked.frames
    pub refuses : Refuses asked None stall
    -- since then those tables came to be free, and no other frame has another use
    pub roles : (n : ℕ) → (role_of new.frames n ≡ role_of asked.frames n) ⊎ ((role_of new.frames n ≡ Free) × IsTable asked.frames n)
    pub tables : (n : ℕ) → IsTable new.frames n → IsTable old.frames n
    -- no other process has another entry, no page of a file or an object came, went, or became touched or clean
    pub entries : (q page : ℕ) → q ≢ child → IsPage (top_level mode) page → entry new q page ≡ entry asked q page
    pub places : (p : PageKey) → new.place p ≡ asked.place p
    pub touched : (p : PageKey) → new.touched p ≡ asked.touched p
    -- and slots are as many, and as many share each
    pub slots : new.slots.total ≡ asked.slots.total
    pub shares : (k : ℕ) → new.slots.count k ≡ asked.slots.count k

-- a page of any process but one that had no entry has none
module _ {mode : ℕ} where
  abbrev pub KeepsBareOfOthers : Picture mode → Picture mode → ℕ → Type 0
  KeepsBareOfOthers old new pid = (q page : ℕ) → IsPage (top_level mode) page → q ≢ pid → entry old q page ≡ 0 → entry new q page ≡ 0

-- Why no copy of a process was to be had, by what processes see and files are touched: the tables that they need with those of the
-- copy, the zero page and one frame more fill memory; or the own copies and touched pages that there are don't go into swap.
module _ {mode : ℕ} where
  unfoldable pub IsShortToFork : Picture mode → ℕ → Stall → Type 0
  IsShortToFork c parent NoFrames = frame_count c.frames ≤ tables_over mode (is_live c) (view c) + tables_of mode (view c parent) + 2
  IsShortToFork c parent NoSwap = c.slots.total < copies_over mode (view c) (touched_file c) (stored_object c)
  IsShortToFork c parent SwapDevice = Unit {0}
  IsShortToFork c parent StoreDevice = Unit {0}
