-- Stops in a row: a store that stops, and stops again in each opening after the stop before.
-- Failure-atomic msync asks of recovery that it may be stopped and begun again (Park, Kelly and Shen, EuroSys 2013).
use Rattle.std.specs.Prelude.{ℕ, zero, suc, ◌≡◌}
use Rattle.disk_model.specs.Stop.{Image}
use Rattle.disk_model.specs.Moments.{LeavesOnly}
use Rattle.disk_model.specs.declared.sector_disk.SectorDisk.{Ghosts}
use Rattle.file_store.specs.Standing.{StandsAs}

module _ {D : Type 0} (g : Ghosts D) where
  -- An opening, from old to new, of a device of so many sectors that came up with this image, all of it synced.
  pub record Opens (sectors : ℕ) (image : Image) (old new : D) : Type 0 where
    pub size : g.sector_count old ≡ sectors
    pub held : g.content old ≡ image
    pub synced : (k : ℕ) → g.unsynced old k → ⊥
    pub keeps : g.keeps_model new
    pub stands : LeavesOnly g old new (StandsAs (g.sector_count old) (g.content old))

  -- The last image is one that n stops in a row may leave: the first of them within an opening of the first image, and
  -- each other one within an opening of what the stop before it left.
  abbrev pub LeftInARow : ℕ → ℕ → Image → Image → Type 0
  LeftInARow sectors zero first last = last ≡ first
  LeftInARow sectors (suc n) first last = (image : Image) × (old : D) × (new : D)
      × LeftInARow sectors n first image × Opens sectors image old new × g.left_since new (g.moment old) last
