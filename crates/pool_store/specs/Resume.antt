-- A store of which nothing is unsynced, taken up as it stands: nothing is written, and the pages that stand in slots stay there.
use Rattle.std.specs.Prelude.{ℕ, ◌<◌, ◌≤◌, ◌≡◌, ◌⊎◌, Bool, not, Result, IfOk, IsErrOf}
use Rattle.disk_model.specs.Moments.{Nothing, AsksOnly, LeavesNow}
use Rattle.disk_model.specs.Stop.{Image, NamesOnce}
use Rattle.disk_model.specs.declared.sector_disk.SectorDisk.{Ghosts}
use Rattle.sync_journal.specs.{Layout.{IsPageSector}, Layouts.{HomesStandAs}, Recovering.{StaysThrough}, Runs.{RunsOnDevice}}
use Rattle.pool_journal.specs.{Pools.{pool, pool_entry, pool_home, pool_home_count, pool_named}, Recovering.{GivesAsNamed, IsGateOrNamed, RestoresInBlocks}, Sizes.{HasPool}}
use Rattle.pool_journal.specs.declared.sizes.PoolSizes.{PoolSizes}
use Rattle.directories.specs.Kinds.{IsDirectorySize, IsKind}
use Rattle.pool_store.specs.Files.{StoreLayout, StandsAs}
use Rattle.pool_store.specs.Pools.{files_in_pool, pool_mark}
use Rattle.pool_store.specs.Reading.{LooksFor}
use Rattle.pool_store.specs.Store.{IsReadyPool, layout_of}
use Rattle.pool_store.specs.declared.faults.OpenFault.{OpenFault}
use Rattle.pool_store.specs.declared.faults.OpenFault.TheVariants.{Device, BadLayout, Memory}
use Rattle.pool_store.specs.declared.resuming.Found.{Found}
use Rattle.pool_store.specs.declared.store.PoolStore.{PoolStore}

-- the layout of stores with maps of m blocks and a directory of d pages, on a device of so many sectors
abbrev pub pool_on : ℕ → ℕ → ℕ → StoreLayout (Bool × (Bool → ℕ → ℕ))
pool_on m d sectors = files_in_pool m d (pool_home_count m sectors)

-- an image of no such store, whichever its sizes
abbrev pub IsNoPool : ℕ → Image → Type 0
IsNoPool sectors image = (m d : ℕ) → (pool_on m d sectors).IsBad sectors image

-- mark and kind of an image are those of a store that has room, with its directory, on a device of so many sectors
abbrev pub HasPoolHead : ℕ → Image → Type 0
HasPoolHead sectors image = (m : ℕ) × (d : ℕ) × (image 0 ≡ pool_mark) × IsKind m d (image 1) × (pool_home m d ≤ sectors)

-- which map the gate names, and what that gives each slot to
abbrev pub state_in : ℕ → ℕ → Image → Bool × (Bool → ℕ → ℕ)
state_in m n image = (pool_named image, pool_entry m n (pool_named image) image)

-- What an opening of a store asks for: mark and kind, what a recovery asks for, and where the d pages of the directory stand.
abbrev pub IsDirectoryIn : ℕ → ℕ → ℕ → Image → ℕ → Type 0
IsDirectoryIn m d n image k = (h : ℕ) × (h < d) × IsPageSector ((pool m n).stands_at (state_in m n image) h) k

abbrev pub IsAskedIn : ℕ → ℕ → ℕ → Image → ℕ → Type 0
IsAskedIn m d n image k = (k < 2) ⊎ ((pool m n).IsAsked image k ⊎ IsDirectoryIn m d n image k)

abbrev pub IsAskedOf : {D : Type 0} → PoolStore D → Image → ℕ → Type 0
IsAskedOf store image k = IsAskedIn store.journal.sizes.blocks store.directory.pages store.journal.sizes.homes image k

-- what it reads: of the map what counts
abbrev pub IsReadIn : ℕ → ℕ → ℕ → Image → ℕ → Type 0
IsReadIn m d n image k = ((k < 2) ⊎ IsGateOrNamed m image k) ⊎ IsDirectoryIn m d n image k

abbrev pub IsReadOf : {D : Type 0} → PoolStore D → Image → ℕ → Type 0
IsReadOf store image k = IsReadIn store.journal.sizes.blocks store.directory.pages store.journal.sizes.homes image k

-- of an image of whichever kind, and where it is of none, mark and kind alone
abbrev pub IsAskedToOpen : ℕ → Image → ℕ → Type 0
IsAskedToOpen sectors image k = (k < 2) ⊎ ((m : ℕ) × (d : ℕ) × IsKind m d (image 1) × IsAskedIn m d (pool_home_count m sectors) image k)

-- a store of these parts on a device
abbrev pub store_on : {D : Type 0} → Found → D → PoolStore D
store_on found disk = record { disk = disk; journal = found.journal; directory = found.directory; room = found.room }

module _ {D : Type 0} (g : Ghosts D) where
  -- Mark and kind of a device say that this is its pool, and that its directory has so many pages:
  pub record IsHeadOf (old new : D) (sizes : PoolSizes) (pages : ℕ) : Type 0 where
    -- both lie on the device,
    pub pool : HasPool g sizes old
    pub sized : IsDirectorySize pages
    pub inside : pages ≤ sizes.homes
    -- and so it says.
    pub mark : g.keeps_model new → g.content old 0 ≡ pool_mark
    pub kind : g.keeps_model new → IsKind sizes.blocks pages (g.content old 1)

  -- They are read:
  pub record ReadsHead (old new : D) (result : Result (PoolSizes × ℕ) OpenFault) : Type 0 where
    -- they are looked for, and what they say is told;
    pub looks : LooksFor g (IsNoPool (g.sector_count old) (g.content old)) old new result
    pub open looks use *
    pub found : IfOk result (λ head. IsHeadOf old new head.0 head.1)
    -- no memory is taken,
    pub no_memory : IsErrOf result Memory → ⊥
    -- and no other sector is asked for, and each of these once at most.
    pub once : NamesOnce (λ k. k < 2) (g.asked old) (g.asked new)

  -- While a device is opened, on which a store may have maps of m blocks, a directory of d pages and n homes, what it stands for stays
  pub record KeepsStore (m d n : ℕ) (old new : D) : Type 0 where
    -- at every moment, and after any number of stops in a row,
    pub through : StaysThrough g (StandsAs (files_in_pool m d n) (g.sector_count old)) old new
    pub open through use *
    -- and where it is of this kind, even if a stop spoils whole blocks of 4,096 bytes.
    pub blocks : g.keeps_model new → ((k : ℕ) → g.unsynced old k → ⊥) → IsKind m d (g.content old 1)
        → (first : Image) → StandsAs (files_in_pool m d n) (g.sector_count old) first (g.content old)
        → RestoresInBlocks g m (not (pool_named (g.content old))) (StandsAs (files_in_pool m d n) (g.sector_count old) first) old new

  -- The store is found that stands on a device:
  pub record FindsStore (old : D) (store : PoolStore D) : Type 0 where
    -- it may be read and committed to,
    pub ready : IsReadyPool g store
    -- its image was that of a store,
    pub good : g.keeps_model store.disk → (layout_of store).IsBad (g.sector_count old) (g.content old) → ⊥
    -- of which the gate named a map that gave the slots so;
    pub map : g.keeps_model store.disk → GivesAsNamed store.journal.sizes store.journal.map (g.content old)
    -- nothing is unsynced, and it stands for what it did, from now on, and so does every home, the bytes past its file's end too;
    pub synced : g.keeps_model store.disk → (k : ℕ) → g.unsynced store.disk k → ⊥
    pub now : g.keeps_model store.disk → LeavesNow g store.disk (StandsAs (layout_of store) (g.sector_count old) (g.content old))
    pub homes : g.keeps_model store.disk → LeavesNow g store.disk (HomesStandAs (layout_of store).pages (g.sector_count old) (g.content old))
    -- and where nothing was unsynced, as after a stop, it does so at every moment of the call.
    pub stays : KeepsStore store.journal.sizes.blocks store.directory.pages store.journal.sizes.homes old store.disk
    pub open stays use *

  -- It is taken up as it stands:
  pub record ResumesStore (old : D) (store : PoolStore D) : Type 0 where
    -- it is found, and its map is the one that the gate names;
    pub finds : FindsStore old store
    pub open finds use *
    pub named : g.keeps_model store.disk → store.journal.second ≡ pool_named (g.content old)
    -- nothing is written, and the device did not fail;
    pub run : RunsOnDevice g Nothing old store.disk
    pub open run use *
    pub calm : g.failures store.disk ≡ g.failures old
    -- and no sector is asked for but mark, kind, gate, maps, and those in which the directory stands,
    pub asks : g.keeps_model store.disk → AsksOnly g (IsAskedOf store (g.content old)) old store.disk
    -- of the maps what counts of the named one, and none of them twice.
    pub once : g.keeps_model store.disk → NamesOnce (IsReadOf store (g.content old)) (g.asked old) (g.asked store.disk)

  -- A fault has its cause:
  pub record BlamesStore (old : D) (fault : OpenFault) (new : D) : Type 0 where
    -- `Device` comes only where the device failed, and any other only where it did not,
    pub device : fault ≡ Device → g.failures old < g.failures new
    pub err_calm : (fault ≡ Device → ⊥) → g.failures new ≡ g.failures old
    -- `BadLayout` only where the image is of no store,
    pub bad : g.keeps_model new → fault ≡ BadLayout → IsNoPool (g.sector_count old) (g.content old)
    -- and `Memory` only where mark and kind are those of one.
    pub memory : g.keeps_model new → fault ≡ Memory → HasPoolHead (g.sector_count old) (g.content old)

  -- The device is given back with a fault,
  pub record RefusesToResume (old : D) (fault : OpenFault) (new : D) : Type 0 where
    -- which has its cause;
    pub blames : BlamesStore old fault new
    pub open blames use *
    -- nothing was written,
    pub err_run : RunsOnDevice g Nothing old new
    pub open err_run use *
    -- so that whatever store it is of stays,
    pub err_stays : (m d : ℕ) → KeepsStore m d (pool_home_count m (g.sector_count old)) old new
    -- and nothing was asked for but what an opening asks for.
    pub err_asks : g.keeps_model new → AsksOnly g (IsAskedToOpen (g.sector_count old) (g.content old)) old new
