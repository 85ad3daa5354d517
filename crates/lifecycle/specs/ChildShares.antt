-- What the second pass of a fork needs, and what it comes to: the child's shares of its parent's copies.
use Rattle.vm_types.specs.declared.mode.Levels as Levels
use Rattle.std.specs.Prelude.{◌≡◌, ◌≢◌, ◌+◌, ◌/◌, ◌%◌, ◌<◌, ◌≤◌, ℕ, Some, None}
use Rattle.vm_types.specs.Limits.{top_level, table_entries, user_end}
use Rattle.page_tables.specs.Entry.{number_of, IsEntry}
use Rattle.page_tables.specs.Tree.{IsPage}
use Rattle.page_tables.specs.declared.forms.Entry.{Entry}
use Rattle.residency.specs.declared.kernel.Core.{Core}
use Rattle.residency.specs.Seats.{Seat, seat}
use Rattle.residency.specs.Picture.{Picture, picture_of, entry}
use Rattle.residency.specs.Parts.{IsFit, IsFitBut}
use Rattle.ranges.specs.Steps.{KeepsBesideMemory}
use Rattle.lifecycle.specs.Shares.{IsTableFor, RaisesSeat, SharesRow, Withdraws}
use Rattle.lifecycle.specs.Steps.{HasTablesForCopies}
use Rattle.lifecycle.specs.TablesForCopies.{IsForking}

module _ {mode : ℕ} where
  -- A child awaits its shares of the pages from one up to, not including, another:
  pub record AwaitsShares (c : Picture mode) (parent child low high : ℕ) : Type 0 where
    -- it is another than its parent in a fork,
    pub forking : IsForking c parent child
    pub open forking use *
    pub apart : parent ≢ child
    -- and has no entry for any of these pages.
    pub bare : (page : ℕ) → IsPage (top_level mode) page → low ≤ page → page < high → entry c child page ≡ 0

  -- It has the tables for them too, wherever its parent has a copy.
  pub record IsReadyForShares (c : Picture mode) (parent child low high : ℕ) : Type 0 where
    pub awaits : AwaitsShares c parent child low high
    pub linked : HasTablesForCopies c parent child

  -- A table holds the entries of a process's pages from that one on, with which it begins; of these, so many are a user's.
  pub record HoldsEntries (c : Picture mode) (pid first count n : ℕ) : Type 0 where
    pub place : IsTableFor c pid (first / table_entries) n
    pub begins : first % table_entries ≡ 0
    pub user : first + count ≤ user_end mode

-- An entry names a copy of a process's own, in a frame or in a slot.
pub record IsOwnEntry (e : Entry) : Type 0 where
  pub form : IsEntry e
  pub own : seat (number_of e) ≢ None

module _ {M : Type 0} {m : Levels.Ghosts M} {D E : Type 0} where
  -- Whatever a step of the pass does,
  pub record KeepsFork (old new : Core D E M m) : Type 0 where
    -- memory is fit, with its tables where they were,
    pub fit : IsFit (picture_of new)
    pub places : (q row n : ℕ) → IsTableFor (picture_of old) q row n → IsTableFor (picture_of new) q row n
    -- all else but slots is as it was, and no stall is counted.
    pub rest : KeepsBesideMemory old new
    pub refused : new.refused ≡ old.refused

  -- A child is given its shares of the pages from one up to, not including, another:
  pub record GivesShares (old new : Core D E M m) (parent child low high : ℕ) : Type 0 where
    -- it has one of each copy that its parent has there, as the parent has it since,
    pub shares : SharesRow (picture_of old) (picture_of new) parent child low high
    -- and nothing else changes.
    pub keeps : KeepsFork old new
    pub open keeps use *

  -- A page of which its process has a copy lets no store through:
  pub record WithdrawsWrite (old new : Core D E M m) (pid page : ℕ) (after : Entry) : Type 0 where
    -- it has that entry, which names the same copy,
    pub names : IsOwnEntry after
    pub open names use *
    pub withdrawn : Withdraws (picture_of old) (picture_of new) pid page (number_of after)
    -- and nothing else changes.
    pub keeps : KeepsFork old new
    pub open keeps use *

  -- One more shares what an entry names:
  pub record AddsShare (old new : Core D E M m) (number : ℕ) : Type 0 where
    -- memory is fit but for that share, which no entry names yet,
    pub fit : (y : Seat) → seat number ≡ Some y → IsFitBut (picture_of new) y 1 0
    -- the copy is counted once more, and is as it was,
    pub raises : (y : Seat) → seat number ≡ Some y → RaisesSeat (picture_of old) (picture_of new) y
    -- and nothing else changes.
    pub rest : KeepsBesideMemory old new
    pub refused : new.refused ≡ old.refused
