-- A store as a source's fault may leave it, and the sync that it wants then.
use Rattle.std.specs.Prelude.{ℕ, ◌≡◌, Result, OnOk}
use Rattle.disk_model.specs.{Moments.{Touches, AsksOnly, Nothing}, Stop.{HasCause}}
use Rattle.disk_model.specs.declared.sector_disk.{DiskFault.{DiskFault}, SectorDisk.{Ghosts}}
use Rattle.pool_store.specs.Store.{IsReadyPool}
use Rattle.pool_store.specs.declared.store.PoolStore.{PoolStore}

-- a device as if nothing of it were unsynced
abbrev pub once_synced : {D : Type 0} → Ghosts D → Ghosts D
once_synced g = record g { unsynced = λ disk k. ⊥ }

module _ {D : Type 0} (g : Ghosts D) where
  -- the store is ready but for what is unsynced
  abbrev pub IsReadyOnceSynced : PoolStore D → Type 0
  IsReadyOnceSynced store = IsReadyPool (once_synced g) store

  -- Such a store is synced:
  pub record Settles (old new : PoolStore D) (result : Result (Unit {0}) DiskFault) : Type 0 where
    -- then nothing is unsynced, and it is ready;
    pub synced : g.keeps_model new.disk → OnOk result ((k : ℕ) → g.unsynced new.disk k → ⊥)
    pub ready : OnOk result (IsReadyPool g new)
    -- whatever comes, it may be synced again, and is what it was:
    pub again : IsReadyOnceSynced new
    pub same : (new.directory ≡ old.directory) × (new.journal ≡ old.journal)
    pub size : g.sector_count new.disk ≡ g.sector_count old.disk
    pub kept : g.keeps_model new.disk → g.keeps_model old.disk
    -- nothing is written, and no sector is asked for.
    pub touches : g.keeps_model new.disk → Touches g Nothing old.disk new.disk
    pub asks : AsksOnly g Nothing old.disk new.disk
    -- An error is told exactly where the device failed.
    pub cause : HasCause (g.failures old.disk) (g.failures new.disk) result
