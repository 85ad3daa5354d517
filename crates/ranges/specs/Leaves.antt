-- Entries of pages that get another permission.
use Rattle.std.specs.Prelude.{◌≡◌, ◌≢◌, ℕ, ◌<◌, ◌≤◌, ◌↔◌, Bool, true, false, ◌||◌, ◌&&◌, Option, Some, None}
use Rattle.vm_types.specs.Limits.{top_level}
use Rattle.vm_types.specs.declared.permission.Prot.{Prot}
use Rattle.vm_types.specs.declared.region.Attr.{Attr}
use Rattle.vm_types.specs.Permission as Permission
use Rattle.frames.specs.FrameTable.{FrameTable, count_of, IsFrame}
use Rattle.sv39_walk.specs.Entry.{is_valid, is_dirty, frame_of}
use Rattle.page_tables.specs.Change.{KeepsFrames}
use Rattle.page_tables.specs.Tree.{IsPage}
use Rattle.residency.specs.Parts.{is_shared}
use Rattle.residency.specs.Picture.{Picture, entry, is_private, is_swapped}
use Rattle.residency.specs.Steps.{SameBeside}
use Rattle.page_tables.specs.Leaves.{IsEntryOver}
use Rattle.ranges.specs.Steps.{IsBeside}

-- whether stores to the frame that an entry names need no further mark: it is the process's own, or D is set
abbrev pub needs_no_mark : ℕ → Bool
needs_no_mark e = is_private e || (is_valid e && is_dirty e)

-- The entry e' in the place of e, which names a frame: that of the permission over the same frame, the process's own or not
-- as before. Where anything is permitted it is a leaf with V, U and A, with R and X as the permission has them, with W where
-- `writable` says so, and with D exactly where the frame is the process's own or D was set; else the frame is parked.
pub record IsPermittedEntry (prot : Prot) (writable : Bool) (e e' : ℕ) : Type 0 where
  pub over : IsEntryOver e' prot (frame_of e) (is_private e) writable (needs_no_mark e)

abbrev pub is_mapped_shared : Option Attr → Bool
is_mapped_shared None = false
is_mapped_shared (Some attr) = is_shared attr.backing

-- A store may go to the frame that the entry names: the permission lets it, and either the frame is the process's own and
-- nobody else has it, or it is not, and the page is a shared one.
pub record TakesStores (t : FrameTable) (attr : Option Attr) (prot : Prot) (e : ℕ) : Type 0 where
  pub permitted : Permission.can_write prot ≡ true
  pub sole : is_private e ≡ true → count_of t (frame_of e) ≡ 1
  pub common : is_private e ≡ false → is_mapped_shared attr ≡ true

-- A page's entry before and after: nothing stands for it; or the page lies in a slot, and its entry, which has no permission, is
-- the same number; or what stands for it is as the permission says, and has W exactly where a store may go to its frame.
pub data Permits (t : FrameTable) (attr : Option Attr) (prot : Prot) (e e' : ℕ) : Type 0 where
  Empty : e ≡ 0 → e' ≡ 0 → Permits t attr prot e e'
  Away : is_swapped e ≡ true → e' ≡ e → Permits t attr prot e e'
  Kept : e ≢ 0 → is_swapped e ≡ false → (writable : Bool) → ((writable ≡ true) ↔ TakesStores t attr prot e) → IsPermittedEntry prot writable e e' → Permits t attr prot e e'

-- each entry of a process names a frame of memory, or its page lies in a slot
module _ {mode : ℕ} where
  abbrev pub NamesFrames : Picture mode → ℕ → Type 0
  NamesFrames c pid = (page : ℕ) → IsPage (top_level mode) page → entry c pid page ≢ 0 → is_swapped (entry c pid page) ≡ false → IsFrame c.frames (frame_of (entry c pid page))

-- the pages of one process from low up to, not including, high have entries of that permission, and all else is as it was
module _ {mode : ℕ} where
  pub record PermitsRow (old new : Picture mode) (pid low high : ℕ) (prot : Prot) : Type 0 where
    pub beside : SameBeside old new
    pub memory : KeepsFrames old.frames new.frames
    pub kept : (q page : ℕ) → IsPage (top_level mode) page → IsBeside pid low high q page → entry new q page ≡ entry old q page
    pub changed : (page : ℕ) → IsPage (top_level mode) page → low ≤ page → page < high
        → Permits old.frames (old.at pid page) prot (entry old pid page) (entry new pid page)
