-- What a call that reads file pages into memory leaves of the store.
use Rattle.std.specs.Prelude.{◌≡◌, ◌≤◌, ℕ, List}
use Rattle.vm_types.specs.declared.file.FilePage.{FilePage}
use Rattle.disk_model.specs.declared.sector_disk.SectorDisk.{Ghosts}
use Rattle.disk_model.specs.Moments.{Touches, Nothing}
use Rattle.stores.specs.Images.{standing_page}
use Rattle.sized_stores.specs.{Reading.{left_page}, Store.{directory_of, disk_of, kept_of, shortest_in}}
use Rattle.sized_stores.specs.declared.store.SizedStore.{SizedStore}

module _ {D : Type 0} (g : Ghosts D) where
  -- the store was read and not written, and files have the lengths that they had
  pub record ReadsStore (old new : SizedStore D) : Type 0 where
    pub size : g.sector_count (disk_of new) ≡ g.sector_count (disk_of old)
    pub kept : g.keeps_model (disk_of new) → g.keeps_model (disk_of old)
    pub failures : g.failures (disk_of old) ≤ g.failures (disk_of new)
    pub touches : g.keeps_model (disk_of new) → Touches g Nothing (disk_of old) (disk_of new)
    pub same : kept_of new ≡ kept_of old
    pub sizes : new.sizes.items ≡ old.sizes.items

  -- a page of a file as it would be read: as it stands durably, with zeros from where the file was cut off since
  abbrev pub page_at_home : SizedStore D → FilePage → List ℕ
  page_at_home store p = left_page (shortest_in (directory_of store) p.file) p.page (standing_page (g.sector_count (disk_of store)) (g.content (disk_of store)) p.file p.page)

  -- the bytes of a file page that was read from there, as long as the device kept its model
  abbrev pub IsRead : SizedStore D → SizedStore D → FilePage → List ℕ → Type 0
  IsRead before after p bytes = g.keeps_model (disk_of after) → bytes ≡ page_at_home before p
