-- What an upgrade does: from the device of the old store to that of the new one.
use Rattle.std.specs.Prelude.{ℕ, ◌<◌, ◌≤◌, ◌≡◌, ◌⊎◌, Some, length, Result, OnOk, OnErr, IsErr, IsErrOf}
use Rattle.disk_model.specs.Stop.{NamesOnce}
use Rattle.disk_model.specs.Moments.{Touches, AsksOnly, Nothing, LeavesOnly}
use Rattle.disk_model.specs.declared.sector_disk.SectorDisk.{Ghosts}
use Rattle.sync_journal.specs.Layout.{first_home_sector, home_count}
use Rattle.sync_journal.specs.OldJournal.{old_homes, old_sizes}
use Rattle.sync_journal.specs.OldLayouts.{old_home_count, IsBadOld}
use Rattle.sync_journal.specs.Runs.{RunsOnDevice}
use Rattle.sync_journal.specs.declared.version.Version.TheVariants.{One}
use Rattle.file_store.specs.declared.directory.Directory.{Directory}
use Rattle.file_store.specs.declared.directory.Entry.{Entry}
use Rattle.file_store.specs.declared.faults.UpgradeFault.{UpgradeFault}
use Rattle.file_store.specs.declared.faults.UpgradeFault.TheVariants.{OldDevice, OldLayout, OldJournal, NewDevice, NewSmall, Formatted}
use Rattle.file_store.specs.declared.old_store.OldStore.{OldStore}
use Rattle.file_store.specs.Directory.{home_end, IsSoundDirectory}
use Rattle.file_store.specs.Layout.{mark, IsMark}
use Rattle.file_store.specs.Making.{Makes}
use Rattle.file_store.specs.Standing.{IsBadLayoutIn}
use Rattle.file_store.specs.Store.{entry_of}
use Rattle.file_store.specs.Upgrade.{IsOldStore, IsOldAsked, IsTooSmall, IsUpgradeSector, IsUpgradeOf, IsUpgradeIfMarked, HasUpgradeCauses}

-- On a device of so many sectors a store of layout 2 has homes enough for these files:
pub record HasRoomFor (sectors : ℕ) (directory : Directory) : Type 0 where
  -- it has all the sectors before the homes,
  pub room : first_home_sector ≤ sectors
  -- and the homes of each file end within it.
  pub fits : (f : ℕ) (e : Entry) → entry_of directory f ≡ Some e → home_end e ≤ home_count sectors

-- Of the faults of a look at the new device, `NewDevice` is told exactly where it failed, and no other but the two that it is refused with.
pub record HasCheckCauses {T : Type 0} (before now : ℕ) (result : Result T UpgradeFault) : Type 0 where
  pub failed : IsErrOf result NewDevice → before < now
  pub still : (IsErrOf result NewDevice → ⊥) → now ≡ before
  pub others : OnErr result (IsErrOf result NewSmall ⊎ (IsErrOf result Formatted ⊎ IsErrOf result NewDevice))

module _ {D : Type 0} (g : Ghosts D) where
  -- The files of a store can be copied to homes on a device of so many sectors:
  pub record IsCopiable (store : OldStore) (old : D) (sectors : ℕ) : Type 0 where
    -- it is of layout 1,
    pub version : store.journal.version ≡ One
    -- its files have their homes within it, each its own,
    pub sound : IsSoundDirectory (old_home_count One (g.sector_count old)) (entry_of store.directory)
    -- its journal names no more homes than it has room for,
    pub few : length (old_homes store.journal) ≤ (old_sizes store.journal).most
    -- it is what the image says,
    pub found : g.keeps_model old → IsOldStore One (g.content old) store
    -- and the homes of each file end within the new device.
    pub fits : (f : ℕ) (e : Entry) → entry_of store.directory f ≡ Some e → home_end e ≤ home_count sectors

  module _ {T E : Type 0} where
    -- A page is read where it stands in the old store, which is only read:
    pub record ReadsOldPage (old new : D) (result : Result T E) : Type 0 where
      pub run : RunsOnDevice g Nothing old new
      -- an error is told exactly where the device failed.
      pub failed : IsErr result → g.failures old < g.failures new
      pub calm : OnOk result (g.failures new ≡ g.failures old)

  module _ {T E : Type 0} (h : Ghosts E) where
    -- Pages are copied from a device to another:
    pub record CopiesPages (Read Written : ℕ → Type 0) (old old' : D) (new new' : E) (result : Result T UpgradeFault) : Type 0 where
      -- the first is only read, only where they stand, and each sector once,
      pub old_run : RunsOnDevice g Nothing old old'
      pub once_old : g.keeps_model old' → NamesOnce Read (g.asked old) (g.asked old')
      -- no sector of the second is asked for or written but those that they go to,
      pub run : Makes h Written new new'
      -- and a fault is told exactly where the device that it names failed, and no other fault.
      pub causes : HasUpgradeCauses (g.failures old) (g.failures old') (h.failures new) (h.failures new') result
      pub others : OnErr result (IsErrOf result OldDevice ⊎ IsErrOf result NewDevice)

    -- A store of layout 2 is made on a device that stands for what the store of layout 1 on another device stands for:
    pub record UpgradesStore (old old' : D) (new new' : E) (result : Result T UpgradeFault) : Type 0 where
      -- after Ok it does, with its mark, and all of it is synced.
      pub ok : g.keeps_model old' → h.keeps_model new' → OnOk result (IsUpgradeOf (g.sector_count old) (h.sector_count new) (g.content old) (h.content new'))
      pub marked : h.keeps_model new' → OnOk result (h.content new' 0 ≡ mark)
      pub synced : h.keeps_model new' → OnOk result ((k : ℕ) → h.unsynced new' k → ⊥)
      -- Whatever it returns, every image that a stop at any moment of the call might leave of the new device has no mark or all the rest of the
      -- store, and with its mark stands for what the old one stands for, where the new one had no mark and nothing unsynced.
      pub any_moment : g.keeps_model old' → h.keeps_model new' → ((k : ℕ) → h.unsynced new k → ⊥) → (IsMark (h.content new 0) → ⊥)
          → LeavesOnly h new new' (IsUpgradeIfMarked (g.sector_count old) (h.sector_count new) (g.content old))
      -- The devices keep their sizes, and the old one is never written.
      pub old_size : g.sector_count old' ≡ g.sector_count old
      pub size : h.sector_count new' ≡ h.sector_count new
      pub old_kept : g.keeps_model old' → g.keeps_model old
      pub kept : h.keeps_model new' → h.keeps_model new
      pub only_read : g.keeps_model old' → Touches g Nothing old old'
      -- Of the old one mark, directory, gate and where that is open the map are asked for, and each page of a file where it stands, no sector twice;
      -- of the new one mark, directory and gate, and the homes of the files.
      pub asks_old : g.keeps_model old' → AsksOnly g (IsOldAsked One (g.content old)) old old'
      pub once_old : g.keeps_model old' → NamesOnce (IsOldAsked One (g.content old)) (g.asked old) (g.asked old')
      pub asks : g.keeps_model old' → AsksOnly h (IsUpgradeSector (g.content old)) new new'
      -- It is refused with `OldLayout` exactly where the old image has no layout 1, unless a device fails first,
      pub old_layout : g.keeps_model old' → IsErrOf result OldLayout → IsBadLayoutIn One (g.sector_count old) (g.content old)
      pub good_layout : g.keeps_model old' → IsBadLayoutIn One (g.sector_count old) (g.content old) → IsErrOf result OldLayout ⊎ IsErrOf result OldDevice
      -- with `OldJournal` where its journal is bad,
      pub old_journal : g.keeps_model old' → IsErrOf result OldJournal → IsBadOld One (g.sector_count old) (g.content old)
      pub good_journal : g.keeps_model old' → IsBadOld One (g.sector_count old) (g.content old)
          → IsErrOf result OldLayout ⊎ (IsErrOf result OldJournal ⊎ IsErrOf result OldDevice)
      -- with `NewSmall` where the new device has no room for its files,
      pub new_small : g.keeps_model old' → IsErrOf result NewSmall → IsTooSmall (h.sector_count new) (g.content old)
      pub large : g.keeps_model old' → IsTooSmall (h.sector_count new) (g.content old)
          → IsErrOf result OldLayout ⊎ (IsErrOf result OldJournal ⊎ (IsErrOf result OldDevice ⊎ IsErrOf result NewSmall))
      -- and with `Formatted` where it has a mark;
      pub formatted : h.keeps_model new' → IsErrOf result Formatted → IsMark (h.content new 0)
      pub not_formatted : h.keeps_model new' → IsMark (h.content new 0) → IsErr result × Touches h Nothing new new'
      -- nothing was written then.
      pub unwritten : h.keeps_model new' → IsErrOf result OldLayout ⊎ (IsErrOf result OldJournal ⊎ (IsErrOf result NewSmall ⊎ IsErrOf result Formatted)) → Touches h Nothing new new'
      -- `OldDevice` and `NewDevice` are told exactly where that device failed.
      pub causes : HasUpgradeCauses (g.failures old) (g.failures old') (h.failures new) (h.failures new') result
