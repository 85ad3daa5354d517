-- Homes at idle: all pages of a store that stand in slots are copied home.
use Rattle.std.specs.Prelude.{ℕ, ◌*◌, ◌≡◌, List, [], Option, Result, OnOk}
use Rattle.vm_types.specs.declared.file.FileInfo.{FileInfo}
use Rattle.disk_model.specs.{Moments.{Touches, AsksOnly, LeavesOnly, LeavesNow}, Stop.{HasCause}}
use Rattle.disk_model.specs.declared.sector_disk.{DiskFault.{DiskFault}, SectorDisk.{Ghosts}}
use Rattle.sync_journal.specs.Layouts.{HomesStandAs, KeepsHomes}
use Rattle.pool_journal.specs.{Committing.{PoolCommitsInBlocks}, Journal.{free_count}, Maps.{entries_of}, Pools.{IsPoolUsed, IsSingle}, Recovering.{GivesNone}, Tidying.{IsTidied}}
use Rattle.pool_store.specs.Files.{StandsFor}
use Rattle.pool_store.specs.Store.{layout_of, state_of, IsReadyPool}
use Rattle.pool_store.specs.declared.store.PoolStore.{PoolStore}

module _ {D : Type 0} (g : Ghosts D) where
  -- A store is tidied:
  pub record TidiesStore (old new : PoolStore D) (result : Result (Unit {0}) DiskFault) : Type 0 where
    -- after Ok every image of a stop from now on stands for the files that it did, and for the same homes, the bytes past a file's end too; the store is ready,
    pub ok : g.keeps_model new.disk
        → (files : ℕ → Option FileInfo) (before : ℕ → ℕ → List ℕ) → LeavesNow g old.disk (StandsFor (layout_of old) (g.sector_count old.disk) files before)
        → OnOk result (LeavesNow g new.disk (StandsFor (layout_of old) (g.sector_count old.disk) files before))
    pub homes : g.keeps_model new.disk → OnOk result (LeavesNow g new.disk (HomesStandAs (layout_of old).pages (g.sector_count old.disk) (g.content old.disk)))
    pub ready : OnOk result (IsReadyPool g new)
    -- no slot is given to a home, so that as many are free as two bodies have,
    pub none : OnOk result (GivesNone old.journal.sizes.blocks (entries_of new.journal.map))
    pub room : OnOk result (free_count old.journal.sizes.blocks (entries_of new.journal.map) ≡ 2 * (504 * old.journal.sizes.blocks))
    -- and nothing is unsynced but what was, where none was given.
    pub synced : g.keeps_model new.disk → OnOk result ((k : ℕ) → g.unsynced new.disk k
        → g.unsynced old.disk k × GivesNone old.journal.sizes.blocks (entries_of old.journal.map))
    -- Every image of a stop at any moment of the call stands for the same files and homes, even one that spoils whole blocks of 4,096 bytes.
    pub any_moment : g.keeps_model new.disk
        → (files : ℕ → Option FileInfo) (before : ℕ → ℕ → List ℕ) → LeavesNow g old.disk (StandsFor (layout_of old) (g.sector_count old.disk) files before)
        → LeavesOnly g old.disk new.disk (StandsFor (layout_of old) (g.sector_count old.disk) files before)
    pub homes_moment : g.keeps_model new.disk → KeepsHomes (layout_of old).pages g old.disk new.disk
    pub blocks : g.keeps_model new.disk
        → (files : ℕ → Option FileInfo) (before : ℕ → ℕ → List ℕ) → LeavesNow g old.disk (StandsFor (layout_of old) (g.sector_count old.disk) files before)
        → PoolCommitsInBlocks g old.journal.sizes.blocks old.journal.second (entries_of old.journal.map)
        (StandsFor (layout_of old) (g.sector_count old.disk) files before) old.disk new.disk
    pub homes_blocks : g.keeps_model new.disk → PoolCommitsInBlocks g old.journal.sizes.blocks old.journal.second (entries_of old.journal.map)
        (HomesStandAs (layout_of old).pages (g.sector_count old.disk) (g.content old.disk)) old.disk new.disk
    -- Where no slot is given to a home nothing is done.
    pub idle : GivesNone old.journal.sizes.blocks (entries_of old.journal.map) → new ≡ old
    -- Directory and sizes are kept, and no home has two slots.
    pub files : new.directory ≡ old.directory
    pub sizes : new.journal.sizes ≡ old.journal.sizes
    pub size : g.sector_count new.disk ≡ g.sector_count old.disk
    pub kept : g.keeps_model new.disk → g.keeps_model old.disk
    pub single : OnOk result (IsSingle old.journal.sizes.blocks (entries_of new.journal.map))
    -- The device is asked for the gate, the slots that are given, their homes and the first block of the other map alone; for no sector more often than
    -- that takes; and no other is written than the gate and what is loose.
    pub asks_device : AsksOnly g (IsPoolUsed old.journal.sizes.blocks old.journal.second (entries_of old.journal.map)) old.disk new.disk
    pub asks_tidied : AsksOnly g (IsTidied old.journal.sizes.blocks old.journal.second (entries_of old.journal.map)) old.disk new.disk
    pub once : (layout_of old).pages.AsksOnce g (state_of old.journal) [] old.disk new.disk
    pub touches : g.keeps_model new.disk → Touches g ((layout_of old).pages.IsCommitted (state_of old.journal)) old.disk new.disk
    -- An error is told exactly where the device failed.
    pub cause : HasCause (g.failures old.disk) (g.failures new.disk) result
