-- What other pages in the place of a row need, and what they come to.
use Rattle.vm_types.specs.declared.mode.Levels as Levels
use Rattle.std.specs.Prelude.{◌≡◌, ℕ, ◌+◌, ◌≤◌, true, Option}
use Rattle.vm_types.specs.Limits.{user_end}
use Rattle.vm_types.specs.declared.region.Attr.{Attr}
use Rattle.frames.specs.FrameTable.{frame_count}
use Rattle.residency.specs.declared.kernel.Core.{Core}
use Rattle.residency.specs.Picture.{Picture, picture_of, is_live}
use Rattle.residency.specs.Parts.{IsFit}
use Rattle.ranges.specs.Rows.{IsBareRow, KeepsNamed, RemapsRow, without_maps}
use Rattle.ranges.specs.Steps.{KeepsDevices, KeepsEntriesOfOthers, ReturnsTables, ReturnsRowTables, LosesSlots}

-- those are pages of a live process, in memory that is fit
module _ {mode : ℕ} where
  pub record IsRowOf (c : Picture mode) (pid first pages : ℕ) : Type 0 where
    pub fit : IsFit c
    pub live : is_live c pid ≡ true
    pub row : first + pages ≤ user_end mode

  -- those pages have no entries either
  pub record IsBareRowOf (c : Picture mode) (pid first pages : ℕ) : Type 0 where
    pub row : IsRowOf c pid first pages
    pub bare : IsBareRow c pid first pages

module _ {M : Type 0} {m : Levels.Ghosts M} {D E : Type 0} where
  -- The pages of a row of one process are those of a map:
  pub record RemapsPages (old new : Core D E M m) (pid first pages : ℕ) (map : ℕ → Option Attr) : Type 0 where
    -- they are mapped so, without entries and own copies, and every other page is as it was, with the same entry;
    pub row : RemapsRow (picture_of old) (picture_of new) pid first pages map
    pub others : KeepsEntriesOfOthers (picture_of old) (picture_of new) pid
    -- pages of objects that only the row named are forgotten, and all others of files and objects are where they were;
    pub files : KeepsNamed (without_maps (picture_of old).at pid first pages) (picture_of old) (picture_of new)
    -- tables of that process alone are given back, on the ways to the row, and of slots the shares of the row and those that held such objects;
    pub tables : ReturnsTables (picture_of old) (picture_of new) pid
    pub row_tables : ReturnsRowTables (picture_of old) (picture_of new) pid first (first + pages)
    pub slots : LosesSlots (picture_of old) (picture_of new) pid first (first + pages)
    -- memory is fit and as large as it was, neither device is asked, and no process comes or goes.
    pub fit : IsFit (picture_of new)
    pub frames : frame_count new.frames ≡ frame_count old.frames
    pub devices : KeepsDevices old new
    pub roots : new.roots ≡ old.roots
    pub refused : new.refused ≡ old.refused
