-- How a boot opens its store.
use Rattle.std.specs.Prelude.{ℕ, ◌≡◌, ◌<◌, ◌≤◌, ◌⊎◌, false}
use Rattle.disk_model.specs.Moments.{Touches, AsksOnly, Nothing, LeavesNow}
use Rattle.disk_model.specs.declared.sector_disk.SectorDisk.{Ghosts}
use Rattle.file_store.specs.Standing.{AreBounded}
use Rattle.stores.specs.Images.{is_pool, most_pages, SaysMostOf, StandsAs, IsBadLayout, IsBadJournal, IsOutside}
use Rattle.stores.specs.Store.{always_free_in, HasRoom}
use Rattle.sized_stores.specs.Store.{can_resize, disk_of, durable_files_of, kept_of, files_of, is_resized_in, IsReadySized}
use Rattle.sized_stores.specs.declared.store.SizedStore.{SizedStore}
use Rattle.machine.specs.declared.boot.BootFault.{BootFault}
use Rattle.machine.specs.declared.boot.BootFault.TheVariants.{Frames, Slots, Device, BadLayout, BadJournal}
use Rattle.machine.specs.Boot.{IsAskedToBoot, BootLeaves}

module _ {D : Type 0} (g : Ghosts D) where
  -- Whatever comes of it,
  pub record RunsStoreBoot (entry new : D) : Type 0 where
    -- the device keeps its size, and forgets no failure,
    pub size : g.sector_count new ≡ g.sector_count entry
    pub kept : g.keeps_model new → g.keeps_model entry
    pub later : g.failures entry ≤ g.failures new
    -- no sector is asked for but those that a boot asks for, what lies outside is as it was,
    pub asks : g.keeps_model new → AsksOnly g (IsAskedToBoot (g.sector_count entry) (g.content entry)) entry new
    pub outside : g.keeps_model new → (k : ℕ) → IsOutside (g.sector_count entry) (g.content entry) k → g.content new k ≡ g.content entry k
    -- and what a stop leaves meanwhile stands for what the store did, with as many pages of an msync.
    pub leaves : BootLeaves g entry new

  -- The store on a device is opened for a machine:
  pub record BootsStore (entry : D) (store : SizedStore D) : Type 0 where
    pub run : RunsStoreBoot entry (disk_of store)
    pub open run use *
    -- it may be read, and committed to, the next commit taking as many pages as every one, and its files' numbers and lengths are in their bounds;
    pub ready : IsReadySized g store
    pub room : HasRoom (kept_of store)
    pub bounded : AreBounded (files_of store)
    -- these have the lengths that they have durably, and may get other ones exactly where its image is of a store with a pool;
    pub files : (f : ℕ) → files_of store f ≡ durable_files_of store f
    pub none : (f : ℕ) → is_resized_in store.sizes.items f ≡ false
    pub resizes : g.keeps_model (disk_of store) → can_resize store ≡ is_pool (g.content entry)
    -- its image was that of a store, stands for what it did, from now on, and says so of as many pages as it did, which every commit may take;
    pub layout : g.keeps_model (disk_of store) → IsBadLayout (g.sector_count entry) (g.content entry) → ⊥
    pub journal : g.keeps_model (disk_of store) → IsBadJournal (g.sector_count entry) (g.content entry) → ⊥
    pub now : g.keeps_model (disk_of store) → LeavesNow g (disk_of store) (StandsAs (g.sector_count entry) (g.content entry))
    pub most_now : g.keeps_model (disk_of store) → LeavesNow g (disk_of store) (SaysMostOf (g.sector_count entry) (g.content entry))
    pub most : g.keeps_model (disk_of store) → always_free_in (kept_of store) ≡ most_pages (g.sector_count entry) (g.content entry)
    -- and the device did not fail.
    pub calm : g.failures (disk_of store) ≡ g.failures entry

  -- The device is given back with this fault:
  pub record RefusesStore (entry : D) (fault : BootFault) (new : D) : Type 0 where
    pub err_run : RunsStoreBoot entry new
    pub open err_run use *
    -- it is none of the machine's sizes;
    pub sized : (fault ≡ Frames) ⊎ (fault ≡ Slots) → ⊥
    -- `Device` comes only where the device failed, and any other only where it did not;
    pub device : fault ≡ Device → g.failures entry < g.failures new
    pub err_calm : (fault ≡ Device → ⊥) → g.failures new ≡ g.failures entry
    -- `BadLayout` and `BadJournal` come only where it is so, a bad layout before a bad journal,
    pub bad_layout : g.keeps_model new → fault ≡ BadLayout → IsBadLayout (g.sector_count entry) (g.content entry)
    pub bad_journal : g.keeps_model new → fault ≡ BadJournal → IsBadJournal (g.sector_count entry) (g.content entry)
    pub layout_first : g.keeps_model new → fault ≡ BadJournal → IsBadLayout (g.sector_count entry) (g.content entry) → ⊥
    -- and where the image is bad nothing was written.
    pub unwritten : g.keeps_model new → (fault ≡ BadLayout) ⊎ (fault ≡ BadJournal) → Touches g Nothing entry new
