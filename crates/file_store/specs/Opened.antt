-- What a look at a layout tells, and what an opening makes of it.
use Rattle.std.specs.Prelude.{ℕ, ◌<◌, ◌≤◌, ◌≡◌, ◌⊎◌, List, [], length, Result, OnOk, OnErr, IsErrOf}
use Rattle.disk_model.specs.Stop.{Image}
use Rattle.disk_model.specs.Moments.{Touches, AsksOnly, Nothing, LeavesOnly, LeavesNow}
use Rattle.disk_model.specs.declared.sector_disk.SectorDisk.{Ghosts}
use Rattle.sync_journal.specs.Commit.{one_journal}
use Rattle.sync_journal.specs.Journal.{live_homes}
use Rattle.sync_journal.specs.Layout.{IsRecovered}
use Rattle.sync_journal.specs.OldJournal.{old_homes, old_sizes}
use Rattle.sync_journal.specs.OldLayouts.{old_home_count, IsBadOld}
use Rattle.sync_journal.specs.Runs.{RunsOnDevice}
use Rattle.sync_journal.specs.declared.version.Version.{Version}
use Rattle.sync_journal.specs.Layouts.{HomesStandAs, KeepsHomes}
use Rattle.file_store.specs.declared.directory.Directory.{Directory}
use Rattle.file_store.specs.declared.faults.OpenFault.{OpenFault}
use Rattle.file_store.specs.declared.faults.OpenFault.TheVariants.{Device, BadLayout, BadJournal}
use Rattle.file_store.specs.declared.old_store.OldStore.{OldStore}
use Rattle.file_store.specs.declared.store.FileStore.{FileStore}
use Rattle.file_store.specs.Directory.{IsSoundDirectory}
use Rattle.file_store.specs.Standing.{IsBadLayout, IsBadLayoutIn, IsAskedToOpen, StandsAs, AreBounded, listed_entry}
use Rattle.file_store.specs.Standing.{IsBadJournal as IsBadJournalOf}
use Rattle.file_store.specs.Store.{IsReadyStore, entry_of, files_of}
use Rattle.file_store.specs.Upgrade.{IsOldStore}
use Rattle.file_store.specs.Versions.{home_pages_of, directory_of}

module _ {D : Type 0} (g : Ghosts D) where
  module _ {T : Type 0} where
    -- A device is looked at:
    pub record LooksAt (old new : D) (result : Result T OpenFault) : Type 0 where
      -- nothing is written to it,
      pub run : RunsOnDevice g Nothing old new
      -- it did not fail where anything is told,
      pub calm : OnOk result (g.failures new ≡ g.failures old)
      -- `Device` comes only where it failed,
      pub device : IsErrOf result Device → g.failures old < g.failures new
      -- and any other fault only where it did not.
      pub still : OnErr result ((IsErrOf result Device → ⊥) → g.failures new ≡ g.failures old)

    -- A layout is looked for on a device:
    pub record LooksFor (Bad : Type 0) (old new : D) (result : Result T OpenFault) : Type 0 where
      -- it is only looked at,
      pub looks : LooksAt old new result
      pub open looks use *
      -- `BadLayout` comes only where the layout is bad,
      pub bad : g.keeps_model new → IsErrOf result BadLayout → Bad
      -- and `BadJournal` never.
      pub no_journal : IsErrOf result BadJournal → ⊥

  -- The directory of this layout, whose sector holds these bytes, was read:
  pub record IsDirectoryIn (version : Version) (old new : D) (bytes : List ℕ) (directory : Directory) : Type 0 where
    -- its files have their homes within the store, each its own,
    pub sound : IsSoundDirectory (home_pages_of version (g.sector_count old)) (entry_of directory)
    -- and so the image says.
    pub entries : g.keeps_model new → (f : ℕ) → entry_of directory f ≡ listed_entry version (g.content old) f
    pub sector : g.keeps_model new → bytes ≡ g.content old (directory_of version)

  -- A store of this layout was found:
  pub record IsOldFound (layout : Version) (old new : D) (store : OldStore) : Type 0 where
    pub version : store.journal.version ≡ layout
    -- its files have their homes within it, each its own,
    pub sound : IsSoundDirectory (old_home_count layout (g.sector_count old)) (entry_of store.directory)
    -- its journal names no more homes than it has room for,
    pub few : length (old_homes store.journal) ≤ (old_sizes store.journal).most
    -- it is what the image says,
    pub found : g.keeps_model new → IsOldStore layout (g.content old) store
    -- and layout and journal are good.
    pub good_layout : g.keeps_model new → IsBadLayoutIn layout (g.sector_count old) (g.content old) → ⊥
    pub good_journal : g.keeps_model new → IsBadOld layout (g.sector_count old) (g.content old) → ⊥

  -- Directory and journal are looked for, and an open journal is carried out; whatever comes of it,
  pub record Mounts (old new : D) : Type 0 where
    -- the device keeps its size, and forgets no failure;
    pub size : g.sector_count new ≡ g.sector_count old
    pub kept : g.keeps_model new → g.keeps_model old
    pub later : g.failures old ≤ g.failures new
    -- no sector is asked for but those that an opening asks for,
    pub asks : g.keeps_model new → AsksOnly g (IsAskedToOpen (g.content old)) old new
    -- none is written but those of a recovery, and none at all where nothing stands in a journal alone;
    pub touches : g.keeps_model new → Touches g (IsRecovered (g.sector_count old)) old new
    pub closed_unwritten : g.keeps_model new → one_journal.IsClosed (g.content old) → Touches g Nothing old new
    -- and where nothing was unsynced, every image of a stop at any moment stands for the same homes.
    pub any_moment : g.keeps_model new → ((k : ℕ) → g.unsynced old k → ⊥) → KeepsHomes one_journal g old new

  -- Or they are refused:
  pub record IsRefusedFor (old : D) (fault : OpenFault) (new : D) : Type 0 where
    -- `Device` comes only where the device failed,
    pub device : fault ≡ Device → g.failures old < g.failures new
    pub calm : (fault ≡ Device → ⊥) → g.failures new ≡ g.failures old
    -- `BadLayout` and `BadJournal` only where it didn't and the image is so, a bad layout before a bad journal;
    pub bad_layout : g.keeps_model new → fault ≡ BadLayout → IsBadLayout (g.sector_count old) (g.content old)
    pub bad_journal : g.keeps_model new → fault ≡ BadJournal → IsBadJournalOf (g.sector_count old) (g.content old)
    pub layout_first : g.keeps_model new → fault ≡ BadJournal → IsBadLayout (g.sector_count old) (g.content old) → ⊥
    -- nothing is written then, nor where the image is so and the device fails.
    pub unwritten : g.keeps_model new → (fault ≡ Device → ⊥) → Touches g Nothing old new
    pub bad_unwritten : g.keeps_model new → IsBadLayout (g.sector_count old) (g.content old) ⊎ IsBadJournalOf (g.sector_count old) (g.content old) → Touches g Nothing old new

  -- The store on a device is opened:
  pub record OpensFrom (old : D) (store : FileStore D) : Type 0 where
    -- it may be read and committed to, and its files' numbers and lengths are in their bounds,
    pub ready : IsReadyStore g store
    pub bounded : AreBounded (files_of store)
    -- nothing stands in a journal alone any more, on the device neither, so that the next opening writes nothing, and nothing is unsynced;
    pub closed : live_homes store.journal ≡ []
    pub emptied : g.keeps_model store.disk → one_journal.IsClosed (g.content store.disk)
    pub synced : g.keeps_model store.disk → (k : ℕ) → g.unsynced store.disk k → ⊥
    -- its image was that of a store,
    pub good_layout : g.keeps_model store.disk → IsBadLayout (g.sector_count old) (g.content old) → ⊥
    pub good_journal : g.keeps_model store.disk → IsBadJournalOf (g.sector_count old) (g.content old) → ⊥
    -- and stands for what it did, from now on, and so does every home, the bytes past its file's end too.
    pub now : g.keeps_model store.disk → LeavesNow g store.disk (StandsAs (g.sector_count old) (g.content old))
    pub homes : g.keeps_model store.disk → LeavesNow g store.disk (HomesStandAs one_journal (g.sector_count old) (g.content old))
    -- Where nothing was unsynced, as after a stop, it does so at every moment of the call: as it did at first, and as it did before any earlier
    -- stop.
    pub any_moment : g.keeps_model store.disk → ((k : ℕ) → g.unsynced old k → ⊥) → LeavesOnly g old store.disk (StandsAs (g.sector_count old) (g.content old))
    pub in_a_row : g.keeps_model store.disk → ((k : ℕ) → g.unsynced old k → ⊥) → (first : Image) → StandsAs (g.sector_count old) first (g.content old)
        → LeavesOnly g old store.disk (StandsAs (g.sector_count old) first)
    -- The device keeps its size, and did not fail.
    pub size : g.sector_count store.disk ≡ g.sector_count old
    pub kept : g.keeps_model store.disk → g.keeps_model old
    pub later : g.failures old ≤ g.failures store.disk
    pub calm : g.failures store.disk ≡ g.failures old
    -- No sector is asked for but mark, directory and gate, and where that is open the map and what is copied. Nothing is written where it is
    -- closed.
    pub asks : g.keeps_model store.disk → AsksOnly g (IsAskedToOpen (g.content old)) old store.disk
    pub touches : g.keeps_model store.disk → Touches g (IsRecovered (g.sector_count old)) old store.disk
    pub closed_unwritten : g.keeps_model store.disk → one_journal.IsClosed (g.content old) → Touches g Nothing old store.disk

  -- The device is given back with this fault:
  pub record RefusesToOpen (old : D) (fault : OpenFault) (new : D) : Type 0 where
    -- `Device` comes only where it failed, and any other only where it did not,
    pub device : fault ≡ Device → g.failures old < g.failures new
    pub err_calm : (fault ≡ Device → ⊥) → g.failures new ≡ g.failures old
    -- `BadLayout` and `BadJournal` only where the image is so, a bad layout before a bad journal, and nothing was written then,
    pub bad_layout : g.keeps_model new → fault ≡ BadLayout → IsBadLayout (g.sector_count old) (g.content old)
    pub bad_journal : g.keeps_model new → fault ≡ BadJournal → IsBadJournalOf (g.sector_count old) (g.content old)
    pub layout_first : g.keeps_model new → fault ≡ BadJournal → IsBadLayout (g.sector_count old) (g.content old) → ⊥
    pub unwritten : g.keeps_model new → (fault ≡ Device → ⊥) → Touches g Nothing old new
    -- nor where the image is so and the device failed before that was seen.
    pub bad_unwritten : g.keeps_model new → IsBadLayout (g.sector_count old) (g.content old) ⊎ IsBadJournalOf (g.sector_count old) (g.content old) → Touches g Nothing old new
    -- Every image of a stop at any moment of the call stands as one of an opening does,
    pub err_moment : g.keeps_model new → ((k : ℕ) → g.unsynced old k → ⊥) → LeavesOnly g old new (StandsAs (g.sector_count old) (g.content old))
    pub err_in_a_row : g.keeps_model new → ((k : ℕ) → g.unsynced old k → ⊥) → (first : Image) → StandsAs (g.sector_count old) first (g.content old)
        → LeavesOnly g old new (StandsAs (g.sector_count old) first)
    -- the device keeps its size, and forgets no failure,
    pub err_size : g.sector_count new ≡ g.sector_count old
    pub err_kept : g.keeps_model new → g.keeps_model old
    pub err_later : g.failures old ≤ g.failures new
    -- and is asked for no more, and written to no more, than an opening does.
    pub err_asks : g.keeps_model new → AsksOnly g (IsAskedToOpen (g.content old)) old new
    pub err_touches : g.keeps_model new → Touches g (IsRecovered (g.sector_count old)) old new
    pub err_closed_unwritten : g.keeps_model new → one_journal.IsClosed (g.content old) → Touches g Nothing old new
