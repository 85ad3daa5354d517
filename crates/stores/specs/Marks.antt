-- The mark is looked at: whether the store on a device is one of a pool.
use Rattle.std.specs.Prelude.{◌≡◌, Bool, Result, IfOk}
use Rattle.disk_model.specs.{Moments.{Nothing}, Stop.{HasCause, Names}}
use Rattle.disk_model.specs.declared.sector_disk.SectorDisk.{Ghosts}
use Rattle.sync_journal.specs.Runs.{RunsOnDevice}
use Rattle.stores.specs.Images.{is_pool}

-- A device's mark is looked at:
pub record LooksAtMark {D E : Type 0} (g : Ghosts D) (old new : D) (result : Result Bool E) : Type 0 where
  -- what it says is told;
  pub mark : g.keeps_model new → IfOk result (λ pool. is_pool (g.content old) ≡ pool)
  -- nothing is written, and no other sector asked for;
  pub run : RunsOnDevice g Nothing old new
  pub open run use *
  pub once : Names (λ k. k ≡ 0) (g.asked old) (g.asked new)
  -- and the device failed exactly where a fault is told.
  pub cause : HasCause (g.failures old) (g.failures new) result
