-- What was written to the pages of a device, told from notes of it, the newest first.
use Rattle.std.specs.Prelude.{◌≡◌, ℕ, ◌+◌, ◌*◌, ◌==◌, if◌then◌else◌, List, [], ◌∷◌, Option, Some, None, slice_index, slice_index_or}
use Rattle.disk_model.specs.Note.{Note}
use Rattle.disk_model.specs.Sectors.{joined}
use Rattle.disk_model.specs.Stop.{Image}
use Rattle.disk_model.specs.declared.sector_disk.SectorDisk.{Ghosts}

-- a page of these eight sectors, unknown where there are none
abbrev pub page_of_rows : List (List ℕ) → Option (List ℕ)
page_of_rows [] = None
page_of_rows (row ∷ rows) = Some (joined (λ i. slice_index_or (row ∷ rows) i []) 8)

-- what was written to page n last; none where that isn't known
abbrev pub written_in : List Note → ℕ → Option (List ℕ)
written_in [] n = None
written_in (note ∷ older) n = if slice_index note.0 0 == n then page_of_rows note.1 else written_in older n

-- page n of an image: sectors 8n to 8n + 7
abbrev pub image_page : Image → ℕ → List ℕ
image_page image n = joined (λ i. image (8 * n + i)) 8

-- as long as it keeps its model, the device holds what was written
abbrev pub IsAsWritten : {D : Type 0} → Ghosts D → D → List Note → Type 0
IsAsWritten g disk notes = g.keeps_model disk → (n : ℕ) (w : List ℕ) → written_in notes n ≡ Some w → image_page (g.content disk) n ≡ w
