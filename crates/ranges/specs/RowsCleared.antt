-- What taking the entries of pages of one process out comes to.
use Rattle.vm_types.specs.declared.mode.Levels as Levels
use Rattle.std.specs.Prelude.{◌≡◌, ℕ, ◌+◌, ◌/◌, ◌%◌, ◌<◌, ◌≤◌, true, Some}
use Rattle.vm_types.specs.Limits.{top_level, table_entries, user_end}
use Rattle.page_tables.specs.Places.{IsTableOf}
use Rattle.residency.specs.declared.kernel.Core.{Core}
use Rattle.residency.specs.Seats.{seat}
use Rattle.residency.specs.Picture.{Picture, picture_of, is_live}
use Rattle.residency.specs.Parts.{IsFit}
use Rattle.residency.specs.Shows.{KeepsFiles}
use Rattle.ranges.specs.declared.rows.TableRow.{TableRow}
use Rattle.ranges.specs.Rows.{RemapsRow}
use Rattle.ranges.specs.Steps.{KeepsBesideMemory, KeepsEntriesOfOthers, SameTables, ReturnsSeat, ReturnsTables, ReturnsRowTables, ReturnsSlots, Clears, IsWithoutTables, IsCleared, IsStepEnd}

-- the entry of a page of the row's process stands in the row's table
module _ {mode : ℕ} where
  pub record StandsIn (c : Picture mode) (row : TableRow) (page : ℕ) : Type 0 where
    pub root : c.root row.pid ≡ Some row.root.0
    pub place : IsTableOf c.frames (top_level mode) row.root.0 (page / table_entries) row.table.0

  -- Pages of one process, from one up to, not including, another, are those of a part:
  pub record IsPartOf (c : Picture mode) (pid start end : ℕ) : Type 0 where
    -- the process lives, in memory that is fit,
    pub fit : IsFit c
    pub live : is_live c pid ≡ true
    -- and there are some, which are the user's.
    pub some : start < end
    pub high : end ≤ user_end mode

  -- A table row holds the entries of pages at its places before an end:
  pub record HoldsPlaces (c : Picture mode) (row : TableRow) (end : ℕ) : Type 0 where
    -- memory is fit, and the row's first page stands at the table's first place,
    pub fit : IsFit c
    pub stands : StandsIn c row row.first
    pub open stands use *
    pub begins : row.first % table_entries ≡ 0
    -- and the places are the table's, of the user's pages.
    pub in_table : end ≤ table_entries
    pub high : row.first + end ≤ user_end mode

module _ {M : Type 0} {m : Levels.Ghosts M} {D E : Type 0} where
  -- The pages of one process from low up to, not including, high lose their entries:
  pub record ClearsPages (old new : Core D E M m) (pid low high : ℕ) : Type 0 where
    -- they have none, the shares that these had are given back, and every other page is as it was;
    pub clears : Clears (picture_of old) (picture_of new) pid low high
    -- memory is fit, and nothing but frames and the share counts of slots changes.
    pub fit : IsFit (picture_of new)
    pub rest : KeepsBesideMemory old new
    pub refused : new.refused ≡ old.refused

  -- The share of what an entry named, which is taken out already, is given back:
  pub record ReleasesShare (old new : Core D E M m) (number : ℕ) : Type 0 where
    -- memory is fit, and of the frame or slot that it named one share less is counted,
    pub fit : IsFit (picture_of new)
    pub gives : ReturnsSeat (picture_of old) (picture_of new) (seat number)
    -- and nothing but frames and the share counts of slots changes.
    pub rest : KeepsBesideMemory old new
    pub refused : new.refused ≡ old.refused

  -- The pages lose their tables too:
  pub record ClearsWithTables (old new : Core D E M m) (pid low high : ℕ) : Type 0 where
    -- their entries go,
    pub pages : ClearsPages old new pid low high
    pub open pages use *
    -- and no table is kept for them alone, or for pages right before them that had neither entries nor such tables.
    pub cleared : (from : ℕ) → from ≤ low → IsCleared (picture_of old) pid from low → IsCleared (picture_of new) pid from high

  -- A step over such pages, from one of them on:
  pub record ClearsNext (old new : Core D E M m) (pid start end next : ℕ) : Type 0 where
    -- those before the next lose entries and tables,
    pub cleans : ClearsWithTables old new pid start next
    pub open cleans use *
    -- which is a later one, as far as the end, and the first past those of one table.
    pub further : start < next
    pub within : next ≤ end
    pub ends : IsStepEnd (picture_of old) pid start end next

  -- A step over the places of a table, from one of them on:
  pub record ClearsPlaces (old new : Core D E M m) (row : TableRow) (index end next : ℕ) : Type 0 where
    -- the pages of those before the next lose their entries,
    pub pages : ClearsPages old new row.pid (row.first + index) (row.first + next)
    pub open pages use *
    -- which is a later one, as far as the end,
    pub further : index < next
    pub within : next ≤ end
    -- and each table stays one, in its place.
    pub tables : SameTables old.frames new.frames
    pub places : (q n : ℕ) → IsTableOf old.frames (top_level m.mode) row.root.0 q n → IsTableOf new.frames (top_level m.mode) row.root.0 q n

  -- A row of pages of one process is cleared:
  pub record ClearsRow (old new : Core D E M m) (pid first pages : ℕ) : Type 0 where
    -- its pages stay mapped, without entries and own copies, and every other page is as it was, with the same entry;
    pub row : RemapsRow (picture_of old) (picture_of new) pid first pages ((picture_of old).at pid)
    pub others : KeepsEntriesOfOthers (picture_of old) (picture_of new) pid
    -- the tables that were there for these pages alone are free, and no others, and of a slot one share for each own copy is given back;
    pub tables : ReturnsTables (picture_of old) (picture_of new) pid
    pub row_tables : ReturnsRowTables (picture_of old) (picture_of new) pid first (first + pages)
    pub none_left : IsWithoutTables (picture_of new) pid first (first + pages)
    pub slots : ReturnsSlots (picture_of old) (picture_of new) pid first (first + pages)
    -- memory is fit, every file has the bytes that it had, and nothing but frames and the share counts of slots changes.
    pub fit : IsFit (picture_of new)
    pub files : KeepsFiles (picture_of old) (picture_of new)
    pub rest : KeepsBesideMemory old new
    pub refused : new.refused ≡ old.refused
