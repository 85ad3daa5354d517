-- Pages read as they are now.
use Rattle.std.specs.Prelude.{ℕ, ◌≡◌, List, Option, Some, None, Result, OnOk}
use Rattle.vm_types.specs.{Files.{bytes_inside, cut}, declared.file.FilePage.{FilePage}}
use Rattle.disk_model.specs.{Moments.{Touches, AsksOnly, Nothing}, Stop.{HasCause, NamesOnce}}
use Rattle.disk_model.specs.declared.sector_disk.SectorDisk.{Ghosts}
use Rattle.stores.specs.Images.{standing_page}
use Rattle.sized_stores.specs.Store.{directory_of, disk_of, kept_of, shortest_in, IsReadySized, IsSectorOf}
use Rattle.sized_stores.specs.declared.{sizes.Size.{Size}, store.SizedStore.{SizedStore}}

-- how many bytes of a page were not cut off: all of them where files keep their lengths
abbrev pub bytes_left : Option Size → ℕ → ℕ
bytes_left None page = 4096
bytes_left (Some size) page = bytes_inside size.shortest page

-- a page of a file as it stands, with zeros from where the file was cut off
abbrev pub left_page : ℕ → ℕ → List ℕ → List ℕ
left_page shortest page bytes = cut (bytes_inside shortest page) bytes

module _ {D T E : Type 0} (g : Ghosts D) where
  -- A page of a file is read:
  pub record ReadsSizedPage (old new : SizedStore D) (p : FilePage) (to : List ℕ) (result : Result T E) : Type 0 where
    -- it is given as it stands, with zeros from where the file was cut off,
    pub page : g.keeps_model (disk_of new) → OnOk result (to ≡ left_page (shortest_in (directory_of old) p.file) p.page
        (standing_page (g.sector_count (disk_of old)) (g.content (disk_of old)) p.file p.page))
    -- the store stays ready, and as it was, and nothing is written;
    pub ready : IsReadySized g new
    pub same : (kept_of new ≡ kept_of old) × (new.sizes.items ≡ old.sizes.items)
    pub size : g.sector_count (disk_of new) ≡ g.sector_count (disk_of old)
    pub kept : g.keeps_model (disk_of new) → g.keeps_model (disk_of old)
    pub touches : g.keeps_model (disk_of new) → Touches g Nothing (disk_of old) (disk_of new)
    -- no sector is asked for but those in which the page stands, and each of them once at most,
    pub asks : AsksOnly g (IsSectorOf old p) (disk_of old) (disk_of new)
    pub once : NamesOnce (IsSectorOf old p) (g.asked (disk_of old)) (g.asked (disk_of new))
    -- and an error is told exactly where the device failed.
    pub cause : HasCause (g.failures (disk_of old)) (g.failures (disk_of new)) result
