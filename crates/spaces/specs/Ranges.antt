-- What an exit and the calls on a range leave of memory: they give back and take nothing.
use Rattle.vm_types.specs.declared.mode.Levels as Levels
use Rattle.std.specs.Prelude.{ℕ, ◌≡◌, ◌⊎◌, ◌/◌, Bool, true, false}
use Rattle.disk_model.specs.declared.sector_disk.SectorDisk.{Ghosts}
use Rattle.lifecycle.specs.Changes.{TakesNoFrame}
use Rattle.page_cache.specs.declared.place.Place.TheVariants.{Home}
use Rattle.ranges.specs.Leaves.{Permits}
use Rattle.ranges.specs.Rows.{IsLasting, without_maps}
use Rattle.ranges.specs.Steps.{KeepsDevices, KeepsEntriesOfOthers}
use Rattle.page_tables.specs.Tree.{IsPage}
use Rattle.residency.specs.declared.kernel.Core.{Core}
use Rattle.residency.specs.Picture.{Picture, picture_of, entry}
use Rattle.vm_types.specs.Limits.{top_level}
use Rattle.vm_types.specs.Permission.{kept}
use Rattle.vm_types.specs.Rows.{in_row}
use Rattle.vm_types.specs.declared.object.ObjectPage.{ObjectPage}
use Rattle.vm_types.specs.declared.object.PageKey.{PageKey}
use Rattle.vm_types.specs.declared.object.PageKey.TheVariants.{Object}
use Rattle.vm_types.specs.declared.permission.Prot.{Prot}
use Rattle.vm_types.specs.declared.reply.Reply.{Reply}
use Rattle.vm_types.specs.declared.reply.Reply.TheVariants.{Process, Address, Done, Value, Faulted, Refused, Stalled, Halted, Past}
use Rattle.spaces.specs.Calls.{AccountsFor}

-- the first page of the mapping whose address a reply names; page 0, which nobody has, where it names none
abbrev pub first_mapped : Reply → ℕ
first_mapped (Address addr) = addr / 4096
first_mapped (Process pid) = 0
first_mapped Done = 0
first_mapped (Value width value) = 0
first_mapped (Faulted fault) = 0
first_mapped (Refused errno) = 0
first_mapped (Stalled stall) = 0
first_mapped Halted = 0
first_mapped (Past past) = 0

-- A call that takes nothing. The `pages` pages of the process from `first` on are those that it unmaps, or maps anew.
module _ {mode : ℕ} where
  pub record TakesNothing (old new : Picture mode) (pid first pages : ℕ) : Type 0 where
    -- each frame has the use that it had, or is free
    pub frames : TakesNoFrame old.frames new.frames
    -- each page of a file lies where it lay, and so does each page of an object that is named beside those pages;
    pub place : (p : PageKey) → IsLasting (without_maps old.at pid first pages) p → new.place p ≡ old.place p
    -- none of them became touched or clean
    pub touched : (p : PageKey) → IsLasting (without_maps old.at pid first pages) p → new.touched p ≡ old.touched p
    -- each other page of an object lies where it lay or nowhere any more
    pub gone : (p : ObjectPage) → (new.place (Object p) ≡ old.place (Object p)) ⊎ (new.place (Object p) ≡ Home)
    -- each page of every other process has the entry that it had
    pub others : KeepsEntriesOfOthers old new pid

module _ {M : Type 0} {m : Levels.Ghosts M} {D E : Type 0} (g : Ghosts D) (h : Ghosts E) where
  -- A call gives pages back, whatever comes of it:
  pub record GivesPagesBack (old new : Core D E M m) (pid first pages : ℕ) (reply : Reply) : Type 0 where
    -- it accounts for what it did,
    pub accounts : AccountsFor g h old new reply
    pub open accounts use *
    -- asked neither device,
    pub devices : KeepsDevices old new
    -- and took nothing.
    pub takes : TakesNothing (picture_of old) (picture_of new) pid first pages

-- each page of the process but the `pages` pages from `first` on has the entry that it had
module _ {mode : ℕ} where
  abbrev pub KeepsEntriesBeside : Picture mode → Picture mode → ℕ → ℕ → ℕ → Type 0
  KeepsEntriesBeside old new pid first pages =
      (page : ℕ) → IsPage (top_level mode) page → in_row first pages page ≡ false → entry new pid page ≡ entry old pid page

-- whether a reply tells that a call on a range was done
abbrev pub is_range_done : Reply → Bool
is_range_done Done = true
is_range_done (Address addr) = true
is_range_done (Process pid) = false
is_range_done (Value width value) = false
is_range_done (Faulted fault) = false
is_range_done (Refused errno) = false
is_range_done (Stalled stall) = false
is_range_done Halted = false
is_range_done (Past past) = false

module _ {mode : ℕ} where
  -- The pages of a range of one process lose their entries:
  pub record EmptiesRange (old new : Picture mode) (pid first pages : ℕ) (reply : Reply) : Type 0 where
    -- each other page of it has the entry that it had,
    pub beside : KeepsEntriesBeside old new pid first pages
    -- and these have none once the call is done, also where a frame holds what stands behind them.
    pub bare : is_range_done reply ≡ true → (page : ℕ) → in_row first pages page ≡ true → entry new pid page ≡ 0

  -- The pages of a range of one process get another permission:
  pub record PermitsRange (old new : Picture mode) (pid first pages : ℕ) (prot : Prot) (reply : Reply) : Type 0 where
    -- each other page of it has the entry that it had,
    pub beside : KeepsEntriesBeside old new pid first pages
    -- and these, once the call is done, that of the permission over the frame that they had, or none or the one of a slot as before.
    pub permits : is_range_done reply ≡ true → (page : ℕ) → in_row first pages page ≡ true
        → Permits old.frames (old.at pid page) (kept prot) (entry old pid page) (entry new pid page)
