-- What an upgrade to layout 4 does: from the device of the old store to that of the new one.
use Rattle.std.specs.Prelude.{ℕ, ◌≡◌, ◌⊎◌, Result, OnOk, IsErr, IsErrOf}
use Rattle.disk_model.specs.{Moments.{AsksOnly, LeavesOnly, Nothing, Touches}, Stop.{Image}}
use Rattle.disk_model.specs.declared.sector_disk.SectorDisk.{Ghosts}
use Rattle.file_store.specs.{Blocks.{MakesByBlocks}, Layout.{IsMark}, Making.{LooksFirst}, Upgrade.{HasUpgradeCauses, IsOldAsked as IsVersionAsked}}
use Rattle.file_store.specs.declared.faults.UpgradeFault.{UpgradeFault}
use Rattle.file_store.specs.declared.faults.UpgradeFault.TheVariants.{Formatted, NewSmall, OldDevice, OldJournal, OldLayout}
use Rattle.pool_store.specs.Pools.{pool_mark}
use Rattle.upgrades.specs.{Finding.{LooksAtKind}, NewPool.{IsTooSmall, IsUpgradeIfHeaded, IsUpgradeIfMarked, IsUpgradeOf, IsUpgradeSector}, Old.{version_in, file_info, IsBadJournal, IsBadLayout, IsLookedAt, IsOldPage}}

-- What an upgrade asks of the old store: a look at it, and the pages of the files where they stand.
abbrev pub IsOldAsked : Image → ℕ → Type 0
IsOldAsked image k = IsLookedAt image k ⊎ IsOldPage image k

module _ {D T E : Type 0} (g : Ghosts D) (h : Ghosts E) where
  -- A store of layout 4, with maps of m blocks, is made on a device that stands for what the store of layout 2 or 3 on another device stands for:
  pub record UpgradesToPool (m : ℕ) (old old' : D) (new new' : E) (result : Result T UpgradeFault) : Type 0 where
    -- after Ok it does, with its mark, and all of it is synced.
    pub ok : g.keeps_model old' → h.keeps_model new' → OnOk result (IsUpgradeOf m (g.sector_count old) (h.sector_count new) (g.content old) (h.content new'))
    pub marked : h.keeps_model new' → OnOk result (h.content new' 0 ≡ pool_mark)
    pub synced : h.keeps_model new' → OnOk result ((k : ℕ) → h.unsynced new' k → ⊥)
    -- Whatever it returns, every image that a stop at any moment of the call might leave of the new device has no mark or all the rest of the store,
    -- with the mark stands for what the old one stands for, and is no other store, where the new one had no mark and nothing unsynced.
    pub any_moment : g.keeps_model old' → h.keeps_model new' → ((k : ℕ) → h.unsynced new k → ⊥) → (IsMark (h.content new 0) → ⊥)
        → LeavesOnly h new new' (IsUpgradeIfMarked m (g.sector_count old) (h.sector_count new) (g.content old))
    -- So it is, too, where a stop leaves any bytes in each block of 4,096 bytes that was written to since the last sync: an image with kind and
    -- mark is the store.
    pub blocks : g.keeps_model old' → h.keeps_model new' → ((k : ℕ) → h.unsynced new k → ⊥) → (IsMark (h.content new 0) → ⊥)
        → MakesByBlocks h (IsUpgradeIfHeaded m (g.sector_count old) (h.sector_count new) (g.content old)) new new'
    -- The devices keep their sizes, and the old one is never written.
    pub old_size : g.sector_count old' ≡ g.sector_count old
    pub size : h.sector_count new' ≡ h.sector_count new
    pub old_kept : g.keeps_model old' → g.keeps_model old
    pub kept : h.keeps_model new' → h.keeps_model new
    pub only_read : g.keeps_model old' → Touches g Nothing old old'
    -- Of the old one sector 1 is asked for, which says its layout, and then mark, directory, gate, map, and each page of a file where it stands, no sector of
    -- these twice;
    pub asks_old : g.keeps_model old' → AsksOnly g (IsOldAsked (g.content old)) old old'
    pub once_old : g.keeps_model old' → LooksAtKind g (IsVersionAsked (version_in (g.content old)) (g.content old)) old old'
    -- of the new one mark, kind, gate, the block of the first map that says how many count, and the homes of directory and files: the mark is looked at,
    -- and then each of them asked for once at most.
    pub asks : g.keeps_model old' → AsksOnly h (IsUpgradeSector m (g.content old)) new new'
    pub once : g.keeps_model old' → LooksFirst (IsUpgradeSector m (g.content old)) (h.asked new) (h.asked new')
    -- It is refused with `OldLayout` exactly where the old image has no layout of those two, unless a device fails first,
    pub old_layout : g.keeps_model old' → IsErrOf result OldLayout → IsBadLayout (g.sector_count old) (g.content old)
    pub good_layout : g.keeps_model old' → IsBadLayout (g.sector_count old) (g.content old) → IsErrOf result OldLayout ⊎ IsErrOf result OldDevice
    -- with `OldJournal` where its journal is bad,
    pub old_journal : g.keeps_model old' → IsErrOf result OldJournal → IsBadJournal (g.sector_count old) (g.content old)
    pub good_journal : g.keeps_model old' → IsBadJournal (g.sector_count old) (g.content old)
        → IsErrOf result OldLayout ⊎ (IsErrOf result OldJournal ⊎ IsErrOf result OldDevice)
    -- with `NewSmall` where the new device has no room for its files,
    pub new_small : g.keeps_model old' → IsErrOf result NewSmall → IsTooSmall m (h.sector_count new) (file_info (g.content old))
    pub large : g.keeps_model old' → IsTooSmall m (h.sector_count new) (file_info (g.content old))
        → IsErrOf result OldLayout ⊎ (IsErrOf result OldJournal ⊎ (IsErrOf result OldDevice ⊎ IsErrOf result NewSmall))
    -- and with `Formatted` where it has a mark;
    pub formatted : h.keeps_model new' → IsErrOf result Formatted → IsMark (h.content new 0)
    pub not_formatted : h.keeps_model new' → IsMark (h.content new 0) → IsErr result × Touches h Nothing new new'
    -- nothing was written then.
    pub unwritten : h.keeps_model new' → IsErrOf result OldLayout ⊎ (IsErrOf result OldJournal ⊎ (IsErrOf result NewSmall ⊎ IsErrOf result Formatted)) → Touches h Nothing new new'
    -- `OldDevice` and `NewDevice` are told exactly where that device failed.
    pub causes : HasUpgradeCauses (g.failures old) (g.failures old') (h.failures new) (h.failures new') result
