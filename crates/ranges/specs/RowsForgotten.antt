-- What forgetting the pages of objects that a row alone names comes to.
use Rattle.vm_types.specs.declared.mode.Levels as Levels
use Rattle.std.specs.Prelude.{ℕ}
use Rattle.residency.specs.declared.kernel.Core.{Core}
use Rattle.residency.specs.Calls.{KeepsBesidePlaces}
use Rattle.residency.specs.Picture.{picture_of}
use Rattle.residency.specs.Parts.{IsFit}
use Rattle.ranges.specs.Rows.{ForgetsRow}

module _ {M : Type 0} {m : Levels.Ghosts M} {D E : Type 0} where
  -- The pages of objects that a row of one process names lose those names:
  pub record ForgetsNames (old new : Core D E M m) (pid first pages : ℕ) : Type 0 where
    -- those that have no other are at home, and their frames and slots are free, while every entry and every other page is as it was;
    pub forgets : ForgetsRow (picture_of old) (picture_of new) pid first pages
    -- memory is fit, and nothing but places of pages, frames and slots changes.
    pub fit : IsFit (picture_of new)
    pub rest : KeepsBesidePlaces old new
