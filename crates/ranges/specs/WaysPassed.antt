-- What a search for the next pages on whose way no table is missing comes to.
use Rattle.std.specs.Prelude.{◌≡◌, ◌≢◌, ℕ, ◌+◌, ◌*◌, ◌/◌, ◌<◌, ◌≤◌, min, Some, Result, IfOk, IfErr}
use Rattle.vm_types.specs.Limits.{top_level, user_end, table_entries}
use Rattle.vm_types.specs.declared.number.FrameNo.{FrameNo}
use Rattle.frames.specs.FrameTable.{FrameTable}
use Rattle.page_tables.specs.Places.{IsTableOf}
use Rattle.page_tables.specs.Tree.{missing_of}
use Rattle.residency.specs.Picture.{Picture, entry}
use Rattle.residency.specs.Parts.{IsMapped}
use Rattle.residency.specs.Ways.{IsWhole}
use Rattle.ranges.specs.Steps.{IsPastGap}
use Rattle.ranges.specs.declared.rows.LinkedPart.{LinkedPart}

-- pages from one up to, not including, an end: there are some, and they are the user's
pub record IsUserRow (mode page end : ℕ) : Type 0 where
  pub some : page < end
  pub high : end ≤ user_end mode

module _ {mode : ℕ} where
  -- The pages of a linked part
  pub record IsLinkedPart (c : Picture mode) (part : LinkedPart) : Type 0 where
    -- are some of the user's,
    pub further : part.first < part.end
    pub high : part.end ≤ user_end mode
    -- whose entries stand in one lowest table of their process: that one.
    pub one_table : part.end ≤ (part.first / table_entries + 1) * table_entries
    pub table : (r : ℕ) → c.root part.pid ≡ Some r → IsTableOf c.frames (top_level mode) r (part.first / table_entries) part.table.0

  -- On the way to each page of a process from one up to, not including, an end
  pub record HaveNoWholeWay (c : Picture mode) (pid page end : ℕ) : Type 0 where
    -- a table is missing, and so it has no entry.
    pub passed : (p : ℕ) → page ≤ p → p < end → IsWhole c pid p → ⊥
    pub gap : (p : ℕ) → page ≤ p → p < end → entry c pid p ≡ 0

  -- Of the pages of a process from one up to, not including, an end, a search finds
  pub record FindsLinked (c : Picture mode) (pid page end : ℕ) (part : LinkedPart) : Type 0 where
    -- those of one table,
    pub linked : IsLinkedPart c part
    pub open linked use *
    pub of : part.pid ≡ pid
    -- as far as the end,
    pub ends : part.end ≡ min end ((part.first / table_entries + 1) * table_entries)
    -- past those on whose way a table is missing.
    pub from : page ≤ part.first
    pub unlinked : HaveNoWholeWay c pid page part.first

  -- Of the pages of a process from one on, a search for those of one table finds
  pub record FindsPart (c : Picture mode) (pid page : ℕ) (part : LinkedPart) : Type 0 where
    -- some of that process's, all of them mapped,
    pub linked : IsLinkedPart c part
    pub open linked use *
    pub of : part.pid ≡ pid
    pub mapped : (p : ℕ) → part.first ≤ p → p < part.end → IsMapped c pid p
    -- past others that have no entry.
    pub from : page ≤ part.first
    pub gap : (p : ℕ) → page ≤ p → p < part.first → entry c pid p ≡ 0

-- On the way to a page, in the tree of that root,
pub record PassesGap (mode : ℕ) (t : FrameTable) (root page end : ℕ) (result : Result FrameNo ℕ) : Type 0 where
  -- no table is missing, and that is the lowest,
  pub linked : IfOk result (λ n. IsTableOf t (top_level mode) root (page / table_entries) n.0)
  -- or one is, and on the ways to all pages before a later one,
  pub further : IfErr result (λ next. page < next)
  pub passed : IfErr result (λ next. (p : ℕ) → page ≤ p → p < next → missing_of t (top_level mode) root p ≢ 0)
  -- which has fewer missing, or isn't under the table above the missing one, or not before the end.
  pub stops : IfErr result (IsPastGap mode t root page end)
