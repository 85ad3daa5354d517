-- Which sectors of the two devices an msync asks for.
use Rattle.vm_types.specs.declared.mode.Levels as Levels
use Rattle.std.specs.Prelude.{◌≡◌, ◌<◌, ◌≤◌, ℕ, Bool, true, false, List, [], ◌∷◌}
use Rattle.disk_model.specs.Moments.{AsksOnly}
use Rattle.disk_model.specs.declared.sector_disk.SectorDisk.{Ghosts}
use Rattle.pool_journal.specs.Pools.{pool_gate}
use Rattle.swap.specs.Slots.{IsSectorOfSlot}
use Rattle.vm_types.specs.declared.file.FilePage.{FilePage}
use Rattle.vm_types.specs.declared.object.PageKey.TheVariants.{File}
use Rattle.vm_types.specs.declared.number.SlotNo.{SlotNo}
use Rattle.page_cache.specs.declared.place.Place.TheVariants.{Slot}
use Rattle.residency.specs.declared.kernel.Core.{Core}
use Rattle.residency.specs.Picture.{Picture, picture_of}
use Rattle.msync.specs.Choice.{Chosen, chosen_page, takes_files, takes_page}
use Rattle.sized_stores.specs.Store.{disk_of, kept_of}
use Rattle.sized_stores.specs.declared.sizes.Size.{Size}
use Rattle.stores.specs.Store.{StoreKept, IsUsedIn}

module _ {mode : ℕ} where
  -- a sector of the slot that a file page lies in
  abbrev pub IsSectorOfFilePage : Picture mode → FilePage → ℕ → Type 0
  IsSectorOfFilePage c page k = (s : SlotNo) × (c.place (File page) ≡ Slot s) × IsSectorOfSlot s.0 k

  -- a sector of the slot that a page of the commit lies in
  abbrev pub IsSectorListed : Picture mode → Chosen → ℕ → Type 0
  IsSectorListed c chosen k = (i : ℕ) × (i < chosen.count) × IsSectorOfFilePage c (chosen_page chosen.list i) k

  -- a sector of the slot in which a page lies that an msync of these bytes takes
  abbrev pub IsSectorTaken : Picture mode → List Size → ℕ → ℕ → ℕ → ℕ → Type 0
  IsSectorTaken c sizes pid addr len k = (page : FilePage) × (takes_page c sizes pid addr len page ≡ true) × IsSectorOfFilePage c page k

-- a sector that a store may be asked for by a commit, with lengths of files or of pages alone: with lengths any but those before the gate
abbrev pub IsAskedFor : StoreKept → Bool → ℕ → Type 0
IsAskedFor kept true k = pool_gate ≤ k
IsAskedFor kept false k = IsUsedIn kept k

-- whether there are any of these
abbrev pub are_some : List ℕ → Bool
are_some [] = false
are_some (file ∷ files) = true

module _ {M : Type 0} {m : Levels.Ghosts M} {D E : Type 0} (g : Ghosts D) (h : Ghosts E) where
  -- Which sectors an msync asks for, of both devices.
  pub record AsksToCommit (old new : Core D E M m) (pid addr len : ℕ) : Type 0 where
    -- of the store, where it takes files whole, none before the gate; else those of gate, maps and bodies that its kind of journal uses, and those
    -- that pages are copied from and to which leave it for their homes
    pub store : AsksOnly g (IsAskedFor (kept_of old.store) (takes_files (picture_of old) old.store.sizes.items pid addr len)) (disk_of old.store) (disk_of new.store)
    -- of swap those of the slots that the pages lie in which it takes
    pub swap : AsksOnly h (IsSectorTaken (picture_of old) old.store.sizes.items pid addr len) old.swap.pages.disk new.swap.pages.disk
