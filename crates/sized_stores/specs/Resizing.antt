-- Files that get other lengths.
use Rattle.std.specs.Prelude.{ℕ, ◌≡◌, ◌≢◌, min, true, slice_get, Some}
use Rattle.disk_model.specs.declared.sector_disk.SectorDisk.{Ghosts}
use Rattle.sized_stores.specs.Store.{directory_of, shortest_in, IsReadySized}
use Rattle.sized_stores.specs.declared.store.SizedStore.{SizedStore}

module _ {D : Type 0} (g : Ghosts D) where
  -- A file gets another length:
  pub record ResizesFile (old new : SizedStore D) (file length : ℕ) : Type 0 where
    -- it has it, and has been as short as that since its length was made durable,
    pub sized : slice_get new.sizes.items file ≡ Some (record { length = length; shortest = min (shortest_in (directory_of old) file) length; resized = true })
    -- each other file has the length that it had,
    pub others : (f : ℕ) → f ≢ file → slice_get new.sizes.items f ≡ slice_get old.sizes.items f
    -- and what is durable is as it was.
    pub same : new.store ≡ old.store
    pub ready : IsReadySized g new
