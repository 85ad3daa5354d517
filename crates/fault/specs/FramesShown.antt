-- What showing a frame at a page comes to.
use Rattle.vm_types.specs.declared.mode.Levels as Levels
use Rattle.std.specs.Prelude.{◌≡◌, ◌≢◌, ℕ, Bool, true, false, Some}
use Rattle.vm_types.specs.Limits.{top_level}
use Rattle.vm_types.specs.declared.region.Attr.{Attr}
use Rattle.vm_types.specs.declared.region.Backing.{Backing}
use Rattle.vm_types.specs.declared.region.Backing.TheVariants.{Anon}
use Rattle.vm_types.specs.declared.object.PageKey.{PageKey}
use Rattle.frames.specs.FrameTable.{IsFrame}
use Rattle.page_tables.specs.Change.{SetsEntry}
use Rattle.page_tables.specs.Leaves.{IsEntryOver}
use Rattle.residency.specs.declared.kernel.Core.{Core}
use Rattle.residency.specs.Picture.{Picture, picture_of, entry, is_swapped}
use Rattle.residency.specs.Parts.{IsBehind}
use Rattle.residency.specs.Shows.{KeepsFiles}
use Rattle.fault.specs.declared.spot.Spot.{Spot}
use Rattle.fault.specs.Changes.{Enters, MarksTouched, StandsAt}
use Rattle.residency.specs.Ways.{KeepsAround}
use Rattle.fault.specs.Leaves.{IsFullEntry, full_write, full_dirty}

module _ {mode : ℕ} where
  -- A frame may be shown at a page:
  pub record MayShow (c : Picture mode) (backing : Backing) (frame : ℕ) (private : Bool) : Type 0 where
    -- it is one of memory,
    pub inside : IsFrame c.frames frame
    -- and it stands behind the page, unless it is the process's own.
    pub behind : private ≡ false → IsBehind c backing frame

  -- A page of anonymous memory is zeros still:
  pub record IsBlank (c : Picture mode) (there : Spot) (its : Attr) : Type 0 where
    -- it has its place in a table that is there, and is mapped so,
    pub spot : StandsAt c there
    pub attr : c.at there.pid there.page ≡ Some its
    pub anonymous : its.backing ≡ Anon
    -- and nothing stands there.
    pub none : entry c there.pid there.page ≡ 0

  -- A page lies in a frame:
  pub record LiesInFrame (c : Picture mode) (there : Spot) (its : Attr) : Type 0 where
    -- it has its place in a table that is there, and is mapped so,
    pub spot : StandsAt c there
    pub attr : c.at there.pid there.page ≡ Some its
    -- and what stands there names no slot.
    pub resident : entry c there.pid there.page ≢ 0
    pub here : is_swapped (entry c there.pid there.page) ≡ false

module _ {M : Type 0} {m : Levels.Ghosts M} {D E : Type 0} where
  -- The fullest entry of a page over a frame is set:
  pub record SetsFull (old new : Core D E M m) (there : Spot) (attr : Attr) (frame : ℕ) (private : Bool) : Type 0 where
    -- it stands at the page's place, and no other place has another number;
    pub sets : (number : ℕ) × IsFullEntry (picture_of old) attr frame private number
        × SetsEntry old.frames new.frames (top_level m.mode) there.root.0 there.page number
    -- nothing but frames changes, and none is refused.
    pub rest : KeepsAround old new
    pub not_refused : new.refused.number ≡ old.refused.number

  -- A frame is shown at a page:
  pub record ShowsFrame (old new : Core D E M m) (there : Spot) (attr : Attr) (frame : ℕ) (private write dirty : Bool) : Type 0 where
    -- nothing else changes, and every page is seen as it was,
    pub enters : Enters old new there.pid there.page
    -- no page of a file or an object is moved, or comes to be touched or clean,
    pub files : KeepsFiles (picture_of old) (picture_of new)
    -- and its entry is over that frame, with the page's permission, and W and D as told.
    pub entry : IsEntryOver (entry (picture_of new) there.pid there.page) attr.prot frame private write dirty

  -- The same with W and D where the permission and the sharing of the frame allow them.
  abbrev pub ShowsFully : Core D E M m → Core D E M m → Spot → Attr → ℕ → Bool → Type 0
  ShowsFully old new there attr frame private =
      ShowsFrame old new there attr frame private (full_write (picture_of old) attr frame private) (full_dirty (picture_of old) attr frame private)

  -- A store to a shared page may follow:
  pub record TouchesPage (old new : Core D E M m) (there : Spot) (attr : Attr) (stored : PageKey) (frame : ℕ) : Type 0 where
    -- nothing else changes, and every page is seen as it was,
    pub enters : Enters old new there.pid there.page
    -- but that its page of a file or an object is touched,
    pub touches : MarksTouched (picture_of old) (picture_of new) stored
    -- and its entry is over that frame, with the page's permission, W and D.
    pub entry : IsEntryOver (entry (picture_of new) there.pid there.page) attr.prot frame false true true
