-- What holds from one state of a device to a later one, whatever the calls between them answered.
use Rattle.std.specs.Prelude.{ℕ, ◌≡◌, ◌≤◌}
use Rattle.disk_model.specs.Moments.{Touches}
use Rattle.disk_model.specs.declared.sector_disk.SectorDisk.{Ghosts}

-- Calls were made that wrote to sectors of W alone.
pub record RunsOnDevice {D : Type 0} (g : Ghosts D) (W : ℕ → Type 0) (old new : D) : Type 0 where
  pub size : g.sector_count new ≡ g.sector_count old
  pub kept : g.keeps_model new → g.keeps_model old
  pub later : g.failures old ≤ g.failures new
  pub touches : g.keeps_model new → Touches g W old new
