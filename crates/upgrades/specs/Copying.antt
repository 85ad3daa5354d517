-- Pages are copied from the old store to the device of the new one.
use Rattle.std.specs.Prelude.{ℕ, ◌<◌, ◌≤◌, ◌≡◌, List, Option, Result, OnOk}
use Rattle.vm_types.specs.declared.file.FileInfo.{FileInfo}
use Rattle.file_store.specs.Layout.{listed_files}
use Rattle.disk_model.specs.Stop.{Image, NamesOnce}
use Rattle.disk_model.specs.declared.sector_disk.SectorDisk.{Ghosts}
use Rattle.directories.specs.Kinds.{IsKind}
use Rattle.pool_journal.specs.{Sizes.{HasPool}, declared.sizes.PoolSizes.{PoolSizes}}
use Rattle.file_store.specs.{Blocks.{KindBehind, KindLast}, Format.{IsFrom}, Upgraded.{CopiesPages}}
use Rattle.file_store.specs.declared.{faults.UpgradeFault.{UpgradeFault}, old_store.OldStore.{OldStore}}
use Rattle.pool_store.specs.Format.{new_pages}
use Rattle.upgrades.specs.{NewPool.{files_in, first_of}, Old.{files_of, IsReadable}}

-- a sector from one on and before another
abbrev pub IsBetween : ℕ → ℕ → ℕ → Type 0
IsBetween start end k = (start ≤ k) × (k < end)

module _ {D E : Type 0} (g : Ghosts D) (h : Ghosts E) where
  -- A store can be copied to a pool of these sizes:
  pub record IsCopyable (store : OldStore) (sizes : PoolSizes) (list : List (Option FileInfo)) (old : D) (new : E) : Type 0 where
    -- its pages may be read,
    pub ready : IsReadable g store old
    -- the new device has the pool,
    pub pool : HasPool h sizes new
    -- and, behind the directory, a home for each page of the files of this list, which are the store's.
    pub files : (f : ℕ) → files_in list f ≡ files_of store f
    pub homes : first_of (files_in list) listed_files ≤ sizes.homes

module _ {D E T : Type 0} (g : Ghosts D) (h : Ghosts E) where
  -- Pages of the old store are copied:
  pub record CopiesOld (Read Written : ℕ → Type 0) (old old' : D) (new new' : E) (result : Result T UpgradeFault) : Type 0 where
    -- of the devices no sectors are read and written but these,
    pub copies : CopiesPages g h Read Written old old' new new' result
    pub open copies use *
    -- and of the new one none is asked for twice.
    pub once : NamesOnce Written (h.asked new) (h.asked new')

module _ {D T E : Type 0} (g : Ghosts D) where
  -- All of a new store but the mark is written and synced:
  pub record WritesKindLast (m : ℕ) (Q : Image → Type 0) (old new : D) (result : Result T E) : Type 0 where
    -- first what lies outside the block of the mark, which has Q when it is synced, and then the kind, or not so far yet;
    pub epochs : KindLast g (IsFrom 8) Q old new
    -- after Ok so far,
    pub kind_behind : OnOk result (KindBehind g (IsFrom 8) Q old new)
    pub kind : OnOk result (IsKind m new_pages (g.content new 1))
    -- and nothing is unsynced.
    pub synced : OnOk result ((k : ℕ) → g.unsynced new k → ⊥)
