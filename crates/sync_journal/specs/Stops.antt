-- Stops in a row: a store that stops, and stops again in each recovery from the stop before.
-- Failure-atomic msync asks of recovery that it may be stopped and begun again (Park, Kelly and Shen, EuroSys 2013).
use Rattle.std.specs.Prelude.{ℕ, zero, suc, ◌≡◌}
use Rattle.disk_model.specs.Stop.{Image}
use Rattle.sync_journal.specs.Commit.{one_journal}
use Rattle.sync_journal.specs.Layouts.{KeepsHomes}
use Rattle.disk_model.specs.declared.sector_disk.SectorDisk.{Ghosts}

module _ {D : Type 0} (g : Ghosts D) where
  -- A recovery, from old to new, of a device of so many sectors that came up with this image, all of it synced.
  pub record Recovers (sectors : ℕ) (image : Image) (old new : D) : Type 0 where
    pub size : g.sector_count old ≡ sectors
    pub held : g.content old ≡ image
    pub synced : (k : ℕ) → g.unsynced old k → ⊥
    pub keeps : g.keeps_model new
    pub homes : KeepsHomes one_journal g old new

  -- The last image is one that n stops in a row may leave: the first of them within a recovery of the first image, and
  -- each other one within a recovery of what the stop before it left.
  abbrev pub LeftByRecoveries : ℕ → ℕ → Image → Image → Type 0
  LeftByRecoveries sectors zero first last = last ≡ first
  LeftByRecoveries sectors (suc n) first last = (image : Image) × (old : D) × (new : D)
      × LeftByRecoveries sectors n first image × Recovers sectors image old new × g.left_since new (g.moment old) last
