-- What forgetting a page of a file or an object comes to.
use Rattle.vm_types.specs.declared.mode.Levels as Levels
use Rattle.vm_types.specs.declared.object.PageKey.{PageKey}
use Rattle.residency.specs.declared.kernel.Core.{Core}
use Rattle.residency.specs.Picture.{picture_of}
use Rattle.residency.specs.Parts.{IsFit}
use Rattle.residency.specs.Calls.{KeepsBesidePlaces}
use Rattle.residency.specs.Steps.{Forgets}

module _ {M : Type 0} {m : Levels.Ghosts M} {D E : Type 0} where
  -- A page of a file or an object for which no process has an entry is forgotten:
  pub record DropsPage (old new : Core D E M m) (page : PageKey) : Type 0 where
    -- it is at home and untouched, and what it had is free, memory is fit,
    pub forgets : Forgets (picture_of old) (picture_of new) page
    pub fit : IsFit (picture_of new)
    -- and all but where pages of files and objects lie is as it was.
    pub rest : KeepsBesidePlaces old new
