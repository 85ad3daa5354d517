-- What stands on the way to a page, and around the frames.
use Rattle.vm_types.specs.declared.mode.Levels as Levels
use Rattle.std.specs.Prelude.{◌≡◌, ℕ, Some}
use Rattle.vm_types.specs.Limits.{top_level}
use Rattle.page_tables.specs.Tree.{missing_of}
use Rattle.residency.specs.declared.kernel.Core.{Core}
use Rattle.residency.specs.Picture.{Picture}

-- no table is missing on the way to a page of a process
module _ {mode : ℕ} where
  abbrev pub IsWhole : Picture mode → ℕ → ℕ → Type 0
  IsWhole c pid page = (r : ℕ) → c.root pid ≡ Some r → missing_of c.frames (top_level mode) r page ≡ 0

module _ {M : Type 0} {m : Levels.Ghosts M} {D E : Type 0} where
  -- all but the frames is as it was
  pub record KeepsAround (old new : Core D E M m) : Type 0 where
    pub store : new.store ≡ old.store
    pub swap : new.swap ≡ old.swap
    pub cache : new.cache ≡ old.cache
    pub roots : new.roots ≡ old.roots
    pub regions : new.regions ≡ old.regions
    pub page_of : new.page_of ≡ old.page_of
