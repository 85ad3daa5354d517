-- The old store is found on its device.
use Rattle.std.specs.Prelude.{ℕ, Result, IfOk, OnOk, IsErrOf}
use Rattle.disk_model.specs.{Stop.{NamesOnce}}
use Rattle.disk_model.specs.declared.sector_disk.SectorDisk.{Ghosts}
use Rattle.file_store.specs.{Format.{IsKindSector}, Opened.{LooksAt}, Upgrade.{IsOldHead}}
use Rattle.file_store.specs.declared.{faults.OpenFault.{OpenFault}, faults.OpenFault.TheVariants.{BadLayout, BadJournal}, old_store.OldStore.{OldStore}}
use Rattle.upgrades.specs.Old.{version_in, IsBadJournal, IsBadLayout, IsReadable}

module _ {D : Type 0} (g : Ghosts D) where
  -- Sector 1 is asked for once, and then sectors of W, each once at most.
  pub record LooksAtKind (W : ℕ → Type 0) (old new : D) : Type 0 where
    pub looked : ℕ → ℕ
    pub kind : NamesOnce IsKindSector (g.asked old) looked
    pub rest : NamesOnce W looked (g.asked new)

  -- A store of layout 2 or 3 is looked for:
  pub record FindsOld (old new : D) (result : Result OldStore OpenFault) : Type 0 where
    -- the device is only looked at,
    pub looks : LooksAt g old new result
    pub open looks use *
    -- in sector 1, and then in mark, directory, gate and map, each of these once;
    pub once : g.keeps_model new → LooksAtKind (IsOldHead (version_in (g.content old)) (g.content old)) old new
    -- what is found may be read, and its layout and journal are good,
    pub ready : IfOk result (λ store. IsReadable g store new)
    pub good_layout : g.keeps_model new → OnOk result (IsBadLayout (g.sector_count old) (g.content old) → ⊥)
    pub good_journal : g.keeps_model new → OnOk result (IsBadJournal (g.sector_count old) (g.content old) → ⊥)
    -- or `BadLayout` and `BadJournal` say what is bad, a bad layout before a bad journal.
    pub bad_layout : g.keeps_model new → IsErrOf result BadLayout → IsBadLayout (g.sector_count old) (g.content old)
    pub bad_journal : g.keeps_model new → IsErrOf result BadJournal → IsBadJournal (g.sector_count old) (g.content old)
    pub layout_first : g.keeps_model new → IsErrOf result BadJournal → IsBadLayout (g.sector_count old) (g.content old) → ⊥
