-- What a part of making a store does to the device of the new store.
use Rattle.std.specs.Prelude.{ℕ, ◌<◌, ◌≤◌, ◌≡◌, ◌⊎◌, Result, OnOk, OnErr, IsErr, IsErrOf}
use Rattle.disk_model.specs.Stop.{NamesOnce}
use Rattle.disk_model.specs.Moments.{Touches, AsksOnly}
use Rattle.disk_model.specs.declared.sector_disk.SectorDisk.{Ghosts}
use Rattle.file_store.specs.declared.faults.FormatFault.{FormatFault}
use Rattle.file_store.specs.declared.faults.FormatFault.TheVariants.{Source, Device}
use Rattle.file_store.specs.Format.{IsMarkSector}

-- Calls were made that asked for sectors of W alone, and wrote to no other.
pub record Makes {D : Type 0} (g : Ghosts D) (W : ℕ → Type 0) (old new : D) : Type 0 where
  pub size : g.sector_count new ≡ g.sector_count old
  pub kept : g.keeps_model new → g.keeps_model old
  pub later : g.failures old ≤ g.failures new
  pub asks : AsksOnly g W old new
  pub touches : g.keeps_model new → Touches g W old new

-- The mark was looked at once at most, and then sectors of W asked for, each once at most.
pub record LooksFirst (W : ℕ → Type 0) (before now : ℕ → ℕ) : Type 0 where
  pub looked : ℕ → ℕ
  pub looks : NamesOnce IsMarkSector before looked
  pub makes : NamesOnce W looked now

-- Of the faults of a format, `Device` is told exactly where the device failed in this call.
pub record HasFormatCauses {T : Type 0} (before now : ℕ) (result : Result T FormatFault) : Type 0 where
  pub device : IsErrOf result Device → before < now
  pub calm : OnOk result (now ≡ before)
  pub still : OnErr result (IsErrOf result Device ⊎ (now ≡ before))

module _ {D : Type 0} (g : Ghosts D) where
  module _ {T E : Type 0} where
    -- Sectors of W are written:
    pub record WritesTo (W : ℕ → Type 0) (old new : D) (result : Result T E) : Type 0 where
      -- no other is asked for or written, and none asked for twice,
      pub run : Makes g W old new
      pub once : NamesOnce W (g.asked old) (g.asked new)
      -- and an error is told exactly where the device failed.
      pub failed : IsErr result → g.failures old < g.failures new
      pub calm : OnOk result (g.failures new ≡ g.failures old)

    -- Sectors of W are written and synced:
    pub record WritesSynced (W : ℕ → Type 0) (old new : D) (result : Result T E) : Type 0 where
      pub writes : WritesTo W old new result
      pub open writes use *
      -- where it returns Ok nothing is unsynced.
      pub synced : g.keeps_model new → OnOk result ((k : ℕ) → g.unsynced new k → ⊥)

  module _ {T : Type 0} where
    -- Homes in sectors of W are filled from readers:
    pub record FillsHomes (W : ℕ → Type 0) (HasBytes AreTold : Type 0) (old new : D) (result : Result T FormatFault) : Type 0 where
      -- no other sector is asked for or written, and none asked for twice,
      pub run : Makes g W old new
      pub once : NamesOnce W (g.asked old) (g.asked new)
      -- `Device` is told exactly where the device failed,
      pub causes : HasFormatCauses (g.failures old) (g.failures new) result
      pub open causes use *
      -- `Source` only where a reader was asked for bytes, and no other fault;
      pub source : IsErrOf result Source → HasBytes
      pub others : OnErr result (IsErrOf result Source ⊎ IsErrOf result Device)
      -- and after Ok each reader that tells its bytes told enough of them.
      pub whole : OnOk result AreTold
