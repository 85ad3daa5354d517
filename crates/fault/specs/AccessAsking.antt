-- Which sectors an access to a page asks for, of the store and of swap.
use Rattle.vm_types.specs.declared.mode.Levels as Levels
use Rattle.std.specs.Prelude.{ℕ, ◌⊎◌, None}
use Rattle.vm_types.specs.declared.access.Access.{Access}
use Rattle.vm_types.specs.declared.file.FilePage.{FilePage}
use Rattle.vm_types.specs.declared.object.PageKey.{PageKey}
use Rattle.vm_types.specs.declared.object.PageKey.TheVariants.{File}
use Rattle.disk_model.specs.declared.sector_disk.SectorDisk.{Ghosts}
use Rattle.disk_model.specs.Moments.{AsksOnly}
use Rattle.disk_model.specs.Stop.{NamesOnce}
use Rattle.sized_stores.specs.Store.{IsSectorOf, disk_of}
use Rattle.residency.specs.declared.kernel.Core.{Core}
use Rattle.residency.specs.Picture.{Picture, picture_of}
use Rattle.fault.specs.Asking.{AsksSlotsIf, IsSectorOfCopy, IsSectorOfPage}
use Rattle.fault.specs.Wants.{RunsOut, ShowsFile}

module _ {mode : ℕ} where
  -- a sector of a slot that an access to a page may read: of that of its own copy, or of the page of a file or an object that it shows
  abbrev pub IsSectorOfItsSlot : Picture mode → ℕ → ℕ → ℕ → Type 0
  IsSectorOfItsSlot c pid page k = IsSectorOfCopy c pid page k ⊎ ((p : PageKey) × ShowsFile c pid page p × IsSectorOfPage c p k)

module _ {M : Type 0} {m : Levels.Ghosts M} {D E : Type 0} where
  -- a sector of the store in which the file page stands that a page shows
  abbrev pub IsSectorShown : Core D E M m → ℕ → ℕ → ℕ → Type 0
  IsSectorShown core pid page k = (f : FilePage) × ShowsFile (picture_of core) pid page (File f) × IsSectorOf core.store f k

module _ {M : Type 0} {m : Levels.Ghosts M} {D E : Type 0} (g : Ghosts D) (h : Ghosts E) where
  -- Which sectors an access to a page asks for, of both devices.
  pub record AsksForPage (old new : Core D E M m) (pid page : ℕ) (access : Access) : Type 0 where
    -- of the store those of the file page that it shows, each of them once at most
    pub store : AsksOnly g (IsSectorShown old pid page) (disk_of old.store) (disk_of new.store)
    pub once : NamesOnce (IsSectorShown old pid page) (g.asked (disk_of old.store)) (g.asked (disk_of new.store))
    -- of swap those of the slot that its page lies in, and those of free slots, which only where a frame has to be given up, and one may
    -- be that needs a slot
    pub swap : AsksSlotsIf h (RunsOut (picture_of old) pid page access) old new None (IsSectorOfItsSlot (picture_of old) pid page)
