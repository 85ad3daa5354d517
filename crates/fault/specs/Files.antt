-- What reading file pages into memory leaves of the store and of the files.
use Rattle.vm_types.specs.declared.mode.Levels as Levels
use Rattle.std.specs.Prelude.{◌≡◌, ℕ, false, List, Some, None}
use Rattle.vm_types.specs.declared.file.FilePage.{FilePage}
use Rattle.vm_types.specs.declared.object.ObjectPage.{ObjectPage}
use Rattle.vm_types.specs.declared.object.PageKey.{PageKey}
use Rattle.vm_types.specs.declared.object.PageKey.TheVariants.{File, Object}
use Rattle.vm_types.specs.View.{zero_page}
use Rattle.disk_model.specs.declared.sector_disk.SectorDisk.{Ghosts}
use Rattle.sized_stores.specs.Store.{IsReadySized}
use Rattle.sized_stores.specs.declared.store.SizedStore.{SizedStore}
use Rattle.swap.specs.Slots.{IsReady}
use Rattle.page_cache.specs.declared.place.Place.TheVariants.{Home}
use Rattle.residency.specs.declared.kernel.Core.{Core}
use Rattle.residency.specs.Picture.{Picture, picture_of, held}
use Rattle.residency.specs.Parts.{IsFit}
use Rattle.residency.specs.Calls.{UsesDevice}
use Rattle.residency.specs.Reading.{ReadsStore, IsRead}
use Rattle.fault.specs.Changes.{KeepsSpaces, KeepsTables, KeepsRoom}

-- a file page that is nowhere but in the store
module _ {mode : ℕ} where
  abbrev pub IsInStore : Picture mode → PageKey → Type 0
  IsInStore c p = (f : FilePage) × (p ≡ File f) × (c.place p ≡ Home)

module _ {mode : ℕ} {D : Type 0} (g : Ghosts D) where
  -- A page of a file or an object has the bytes that it had. Or it was untouched, and is at home, or came from there, if it is one of
  -- these: a file page was read, and a page of an object is zeros.
  pub data IsBrought (before after : SizedStore D) (W : PageKey → Type 0) (old new : Picture mode) (p : PageKey) : Type 0 where
    Stays : held new p ≡ held old p → IsBrought before after W old new p
    Leaves : held new p ≡ None → old.touched p ≡ false → IsBrought before after W old new p
    Comes : (f : FilePage) (bytes : List ℕ) → p ≡ File f → W p → held new p ≡ Some bytes → old.touched p ≡ false → IsRead g before after f bytes → IsBrought before after W old new p
    Blank : (o : ObjectPage) → p ≡ Object o → W p → held new p ≡ Some zero_page → old.touched p ≡ false → IsBrought before after W old new p

  pub record BringsPages (before after : SizedStore D) (W : PageKey → Type 0) (old new : Picture mode) : Type 0 where
    pub each : (p : PageKey) → IsBrought before after W old new p
    pub files : (f : ℕ) → new.files f ≡ old.files f

module _ {M : Type 0} {m : Levels.Ghosts M} {D : Type 0} (g : Ghosts D) where
  module _ {E : Type 0} (h : Ghosts E) where
    -- frames may have been given up, file pages read into frames, and entries set
    pub record Proceeds (old new : Core D E M m) : Type 0 where
      pub fit : IsFit (picture_of new)
      pub ready : IsReadySized g new.store
      pub swap : IsReady h new.swap
      pub spaces : KeepsSpaces (picture_of old) (picture_of new)
      pub tables : KeepsTables (picture_of old) (picture_of new)
      pub room : KeepsRoom (picture_of old) (picture_of new)
      pub reads : ReadsStore g old.store new.store
      pub device : UsesDevice h old.swap.pages.disk new.swap.pages.disk

    -- as long as the swap device keeps its model
    abbrev pub BringsFiles : (PageKey → Type 0) → Core D E M m → Core D E M m → Type 0
    BringsFiles W old new = h.keeps_model new.swap.pages.disk → BringsPages g old.store new.store W (picture_of old) (picture_of new)
