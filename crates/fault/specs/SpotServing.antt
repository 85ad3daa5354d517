-- What serving an access to a page needs.
use Rattle.vm_types.specs.declared.mode.Levels as Levels
use Rattle.std.specs.Prelude.{◌≡◌, ℕ, true}
use Rattle.vm_types.specs.declared.access.Access.{Access}
use Rattle.vm_types.specs.declared.region.Attr.{Attr}
use Rattle.disk_model.specs.declared.sector_disk.SectorDisk.{Ghosts}
use Rattle.sized_stores.specs.Store.{IsReadySized}
use Rattle.swap.specs.Slots.{IsReady}
use Rattle.residency.specs.declared.kernel.Core.{Core}
use Rattle.residency.specs.Picture.{picture_of, is_live}
use Rattle.residency.specs.Parts.{IsFit}
use Rattle.fault.specs.declared.spot.Spot.{Spot}
use Rattle.fault.specs.Changes.{StandsAt}
use Rattle.fault.specs.Found.{IsOpenTo}

module _ {M : Type 0} {m : Levels.Ghosts M} {D E : Type 0} (g : Ghosts D) (h : Ghosts E) where
  -- An access to a page may be served:
  pub record MayServe (core : Core D E M m) (pid page : ℕ) (attr : Attr) (access : Access) : Type 0 where
    -- memory is fit and both devices may be used,
    pub fit : IsFit (picture_of core)
    pub store : IsReadySized g core.store
    pub swap : IsReady h core.swap
    -- and the process lives, and its page lets the access.
    pub lives : is_live (picture_of core) pid ≡ true
    pub allowed : IsOpenTo (picture_of core) pid page access attr

  -- The same of a page on whose way no table is missing:
  pub record MayServeAt (core : Core D E M m) (there : Spot) (attr : Attr) (access : Access) : Type 0 where
    -- its entry has its place, in memory that is fit, both devices may be used,
    pub spot : StandsAt (picture_of core) there
    pub store : IsReadySized g core.store
    pub swap : IsReady h core.swap
    -- and the page lets the access.
    pub allowed : IsOpenTo (picture_of core) there.pid there.page access attr
