-- What the first pass of a fork needs, and what it comes to: the tables that the child wants.
use Rattle.vm_types.specs.declared.mode.Levels as Levels
use Rattle.std.specs.Prelude.{◌≡◌, ◌/◌, ℕ, true, Result, OnOk, OnErr}
use Rattle.vm_types.specs.Limits.{table_entries}
use Rattle.vm_types.specs.declared.refusal.Stall.{Stall}
use Rattle.disk_model.specs.declared.sector_disk.SectorDisk.{Ghosts}
use Rattle.swap.specs.Slots.{IsReady}
use Rattle.residency.specs.declared.kernel.Core.{Core}
use Rattle.residency.specs.Picture.{Picture, picture_of, is_live}
use Rattle.residency.specs.Parts.{IsFit}
use Rattle.fault.specs.WaysLinked.{TakesForTables}
use Rattle.lifecycle.specs.Steps.{HasCopy, HasTablesForCopies, LacksTableForCopy, LinksCopies}

module _ {mode : ℕ} where
  -- In a fork, memory is fit, and both processes live, with the same pages.
  pub record IsForking (c : Picture mode) (parent child : ℕ) : Type 0 where
    pub fit : IsFit c
    pub parent_lives : is_live c parent ≡ true
    pub child_lives : is_live c child ≡ true
    pub same : (page : ℕ) → c.at child page ≡ c.at parent page

  -- The page is one of the same table, and its process has a copy of it.
  pub record IsFirstCopy (c : Picture mode) (pid start page : ℕ) : Type 0 where
    pub row : page / table_entries ≡ start / table_entries
    pub copy : HasCopy c pid page

module _ {M : Type 0} {m : Levels.Ghosts M} {D E : Type 0} (h : Ghosts E) where
  -- Tables may be linked for a child: it is another process in a fork, and the swap device may be used.
  pub record MayLink (core : Core D E M m) (parent child : ℕ) : Type 0 where
    pub forking : IsForking (picture_of core) parent child
    pub swap : IsReady h core.swap

  -- A child wants tables for the copies that its parent has:
  pub record LinksForCopies {T : Type 0} (old new : Core D E M m) (parent child : ℕ) (result : Result T Stall) : Type 0 where
    -- frames are taken for tables on the ways to these, and for no others,
    pub takes : TakesForTables h old new result
    pub open takes use *
    pub tables : LinksCopies (picture_of old) (picture_of new) parent child
    -- where none is missing nothing is done,
    pub idle : HasTablesForCopies (picture_of old) parent child → new ≡ old
    -- and where it stalls, one was missing, and still is.
    pub wanted : OnErr result (LacksTableForCopy (picture_of old) parent child)
    pub lacks : OnErr result (LacksTableForCopy (picture_of new) parent child)

  -- A child has its tables:
  pub record MakesReady {T : Type 0} (old new : Core D E M m) (parent child : ℕ) (result : Result T Stall) : Type 0 where
    -- those that are missing are linked, if frames are to be had for them;
    pub links : LinksForCopies old new parent child result
    pub open links use *
    -- then none is missing for a copy of its parent's.
    pub linked : OnOk result (HasTablesForCopies (picture_of new) parent child)
