-- What is left where the entry of a page was made to grant an access.
use Rattle.vm_types.specs.declared.mode.Levels as Levels
use Rattle.std.specs.Prelude.{◌≡◌, ◌⊎◌, ℕ, Bool, true, false, Some}
use Rattle.vm_types.specs.declared.access.Access.{Access}
use Rattle.vm_types.specs.declared.region.Attr.{Attr}
use Rattle.sv39_walk.specs.Entry.{is_valid, is_user, is_accessed, is_dirty, is_reserved, is_leaf, frame_of, grants}
use Rattle.sv39_walk.specs.Walk.{is_store}
use Rattle.residency.specs.declared.kernel.Core.{Core}
use Rattle.residency.specs.Picture.{Picture, picture_of, entry}
use Rattle.fault.specs.Leaves.{IsFullEntry}
use Rattle.fault.specs.Outcome.{seen_at, IsReadyFor, IsFrameFor}

-- a leaf of the lowest level that grants the access
pub record IsOpenLeaf (access : Access) (e : ℕ) : Type 0 where
  pub valid : is_valid e ≡ true
  pub sound : is_reserved e ≡ false
  pub leaf : is_leaf e ≡ true
  pub user : is_user e ≡ true
  pub grants : grants access e ≡ true
  pub accessed : is_accessed e ≡ true
  pub dirty : is_store access ≡ true → is_dirty e ≡ true

-- The page's entry grants the access to frame n, which may be used for it, and whatever else the page's permission and the sharing of
-- that frame allow, and nothing more.
module _ {mode : ℕ} where
  pub record IsEntered (c : Picture mode) (pid page : ℕ) (attr : Attr) (access : Access) (n : ℕ) : Type 0 where
    pub opens : IsOpenLeaf access (entry c pid page)
    pub frame : frame_of (entry c pid page) ≡ n
    pub usable : IsFrameFor access c pid page attr.backing n
    pub private : Bool
    pub full : IsFullEntry c attr n private (entry c pid page)

-- and is ready for it
module _ {mode : ℕ} where
  abbrev pub IsReadyAt : Picture mode → Picture mode → ℕ → ℕ → Attr → Access → ℕ → Type 0
  IsReadyAt old new pid page attr access n = IsReadyFor access old new pid page (seen_at old pid page attr) n

-- The page's entry is the one that it was, and so is all else, or was made to grant the access to frame n.
module _ {M : Type 0} {m : Levels.Ghosts M} {D E : Type 0} where
  abbrev pub LeavesEntry : Core D E M m → Core D E M m → ℕ → ℕ → Access → ℕ → Type 0
  LeavesEntry old new pid page access n = (new ≡ old) ⊎ ((attr : Attr) × ((picture_of old).at pid page ≡ Some attr) × IsEntered (picture_of new) pid page attr access n)
