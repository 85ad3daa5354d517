-- A store that is opened, as a stop left it or as whoever had it last.
use Rattle.std.specs.Prelude.{ℕ, zero, suc, ◌≡◌, not}
use Rattle.disk_model.specs.Moments.{Nothing, Touches, AsksOnly, LeavesOnly}
use Rattle.disk_model.specs.Stop.{Image, NamesOnce}
use Rattle.disk_model.specs.declared.sector_disk.SectorDisk.{Ghosts}
use Rattle.sync_journal.specs.Runs.{RunsOnDevice}
use Rattle.pool_journal.specs.{Maps.{entries_of}, Pools.{pool_home_count, pool_named}, Recovering.{IsGateOrNoted}}
use Rattle.directories.specs.Kinds.{IsKind}
use Rattle.pool_store.specs.Files.{StandsAs}
use Rattle.pool_store.specs.Resume.{IsNoPool, IsAskedOf, IsAskedToOpen, IsReadOf, pool_on, KeepsStore, FindsStore, BlamesStore}
use Rattle.pool_store.specs.Store.{layout_of}
use Rattle.pool_store.specs.declared.faults.OpenFault.{OpenFault}
use Rattle.pool_store.specs.declared.faults.OpenFault.TheVariants.{Device}
use Rattle.pool_store.specs.declared.store.PoolStore.{PoolStore}

-- what an opening of this image writes, of whichever kind it is: gate and other map
abbrev pub IsWrittenToOpen : ℕ → Image → ℕ → Type 0
IsWrittenToOpen sectors image k = (m : ℕ) × (d : ℕ) × IsKind m d (image 1) × (pool_on m d sectors).pages.IsRecovered image sectors k

-- A store is found on a device with this image, no sector asked for twice, and then gate and map are written anew, each sector once at most.
pub record ReadsThenRenews {D : Type 0} (g : Ghosts D) (store : PoolStore D) (image : Image) (old new : D) : Type 0 where
  pub between : ℕ → ℕ
  pub reads : NamesOnce (IsReadOf store image) (g.asked old) between
  pub writes : NamesOnce (IsGateOrNoted store.journal.sizes.blocks (not (pool_named image)) (entries_of store.journal.map)) between (g.asked new)

module _ {D : Type 0} (g : Ghosts D) where
  -- The store on a device is opened:
  pub record OpensPool (old : D) (store : PoolStore D) : Type 0 where
    -- it is found;
    pub finds : FindsStore g old store
    pub open finds use *
    -- where the map gave slots to homes it is written anew, and the gate names the other one; gate and this map alone are written,
    pub anew : g.keeps_model store.disk → ((layout_of store).pages.IsClosed (g.content old) → ⊥) → store.journal.second ≡ not (pool_named (g.content old))
    pub run : RunsOnDevice g ((layout_of store).pages.IsRecovered (g.content old) (g.sector_count old)) old store.disk
    pub open run use *
    -- nothing where it gave none;
    pub closed_unwritten : g.keeps_model store.disk → (layout_of store).pages.IsClosed (g.content old) → Touches g Nothing old store.disk
    -- the device did not fail, and no sector is asked for but mark, kind, gate, maps, and those in which the directory stands.
    pub calm : g.failures store.disk ≡ g.failures old
    pub asks : g.keeps_model store.disk → AsksOnly g (IsAskedOf store (g.content old)) old store.disk
    -- Of the map what counts is read, none of them twice, and then what it takes of the other one's place is written, each once at most.
    pub once : g.keeps_model store.disk → ReadsThenRenews g store (g.content old) old store.disk

  -- The device is given back with this fault,
  pub record RefusesPool (old : D) (fault : OpenFault) (new : D) : Type 0 where
    -- which has its cause;
    pub blames : BlamesStore g old fault new
    pub open blames use *
    -- nothing was written where the device did not fail, nor where the image is of no store and it failed before that was seen, nor where no slot
    -- was given to a home,
    pub unwritten : g.keeps_model new → (fault ≡ Device → ⊥) → Touches g Nothing old new
    pub bad_unwritten : g.keeps_model new → IsNoPool (g.sector_count old) (g.content old) → Touches g Nothing old new
    pub err_closed_unwritten : g.keeps_model new → (m d : ℕ) → IsKind m d (g.content old 1) → (pool_on m d (g.sector_count old)).pages.IsClosed (g.content old)
        → Touches g Nothing old new
    -- and otherwise no more than an opening writes, so that whatever store it is of stays;
    pub err_run : RunsOnDevice g (IsWrittenToOpen (g.sector_count old) (g.content old)) old new
    pub open err_run use *
    pub err_stays : (m d : ℕ) → KeepsStore g m d (pool_home_count m (g.sector_count old)) old new
    -- nor was more asked for.
    pub err_asks : g.keeps_model new → AsksOnly g (IsAskedToOpen (g.sector_count old) (g.content old)) old new

  -- Stops in a row, of a store that stops, and stops again in each opening after the stop before.
  module _ (m d sectors : ℕ) where
    -- An opening, from old to new, of a device of so many sectors that came up with this image, all of it synced:
    pub record OpensImage (image : Image) (old new : D) : Type 0 where
      pub size : g.sector_count old ≡ sectors
      pub held : g.content old ≡ image
      pub synced : (k : ℕ) → g.unsynced old k → ⊥
      -- every image of a stop during it stands for what this one stood for.
      pub stands : LeavesOnly g old new (StandsAs (pool_on m d (g.sector_count old)) (g.sector_count old) (g.content old))

    -- The last image is one that n stops in a row may leave: the first of them within an opening of the first image, and each other one within an opening
    -- of what the stop before it left.
    abbrev pub LeftInARow : ℕ → Image → Image → Type 0
    LeftInARow zero first last = last ≡ first
    LeftInARow (suc n) first last = (image : Image) × (old : D) × (new : D)
        × LeftInARow n first image × OpensImage image old new × g.left_since new (g.moment old) last
