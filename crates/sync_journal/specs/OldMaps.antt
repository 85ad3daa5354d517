-- The map of a layout, which is only read.
use Rattle.std.specs.Prelude.{ℕ, List, Option, Result, IfOk}
use Rattle.disk_model.specs.Stop.{NamesOnce}
use Rattle.disk_model.specs.declared.sector_disk.DiskFault.{DiskFault}
use Rattle.disk_model.specs.declared.sector_disk.SectorDisk.{Ghosts}
use Rattle.sync_journal.specs.Layout.{Sizes, home_count_in, IsMapIn}
use Rattle.sync_journal.specs.Map.{IsWithinHomes, ReadsMap}
use Rattle.sync_journal.specs.Standing.{map_in}
use Rattle.sync_journal.specs.Steps.{ReadsOnly}

module _ {D : Type 0} (g : Ghosts D) where
  -- The map of a layout is read:
  pub record ReadsHomes (sizes : Sizes) (old new : D) (homes : List ℕ) (result : Result (Option ℕ) DiskFault) : Type 0 where
    -- it is bad, or it names homes, no more than it has room for;
    pub few : IfOk result (λ found. IsWithinHomes sizes.most found)
    pub names : g.keeps_model new → IfOk result (λ found. ReadsMap sizes.most (home_count_in sizes (g.sector_count old)) (map_in sizes (g.content old)) homes found)
    -- and the device is read alone, in the map's sectors, each once.
    pub reads : ReadsOnly g old new result
    pub open reads use *
    pub once : NamesOnce (IsMapIn sizes) (g.asked old) (g.asked new)
