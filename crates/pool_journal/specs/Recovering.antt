-- The journal of a pool, taken up from a device: as it stands, or after a stop, when what was read is written anew.
use Rattle.std.specs.Prelude.{ℕ, ◌*◌, ◌<◌, ◌≡◌, ◌⊎◌, Bool, not, Result, OnOk}
use Rattle.disk_model.specs.Moments.{Nothing, Touches}
use Rattle.disk_model.specs.Stop.{Image, NamesOnce}
use Rattle.disk_model.specs.declared.sector_disk.DiskFault.{DiskFault}
use Rattle.disk_model.specs.declared.sector_disk.SectorDisk.{Ghosts}
use Rattle.pool_journal.specs.Blocks.{IsCountedMap, IsNotedMap}
use Rattle.pool_journal.specs.Gates.{IsPoolGate}
use Rattle.pool_journal.specs.Journal.{IsPoolJournal}
use Rattle.pool_journal.specs.Maps.{entries_of}
use Rattle.pool_journal.specs.Pools.{pool, pool_gate, pool_counted, pool_entry, pool_named, IsPoolMap}
use Rattle.pool_journal.specs.declared.map.SlotMap.{SlotMap}
use Rattle.pool_journal.specs.declared.pool.PoolJournal.{PoolJournal}
use Rattle.pool_journal.specs.declared.sizes.PoolSizes.{PoolSizes}
use Rattle.sync_journal.specs.Blocks.{LeavesInBlocks}
use Rattle.sync_journal.specs.Layouts.{Layout, HomesStandAs, IsSettled, KeepsHomes}
use Rattle.sync_journal.specs.Recovering.{Restores}
use Rattle.sync_journal.specs.Steps.{ReadsOnly, SyncsInto}
use Rattle.sync_journal.specs.declared.faults.RecoverFault.{RecoverFault}

-- the layout of a store with a pool of these sizes
abbrev pub layout_in : PoolSizes → Layout (Bool × (Bool → ℕ → ℕ))
layout_in sizes = pool sizes.blocks sizes.homes

-- how a journal is between two commits: which map the gate names, and what that gives each slot to
abbrev pub state_of : PoolJournal → Bool × (Bool → ℕ → ℕ)
state_of journal = (journal.second, entries_of journal.map)

-- a map of so many blocks gives no slot to a home
abbrev pub GivesNone : ℕ → (Bool → ℕ → ℕ) → Type 0
GivesNone m entries = (body : Bool) (r : ℕ) → r < 504 * m → entries body r ≡ 0

-- a map gives the slots as the one does that an image's gate names
abbrev pub GivesAsNamed : PoolSizes → SlotMap → Image → Type 0
GivesAsNamed sizes map image = (body : Bool) (r : ℕ) → r < 504 * sizes.blocks → entries_of map body r ≡ pool_entry sizes.blocks sizes.homes (pool_named image) image body r

-- the gate, or a sector of a map
abbrev pub IsGateOrMap : ℕ → Bool → ℕ → Type 0
IsGateOrMap m second k = (k ≡ pool_gate) ⊎ IsPoolMap m second k

-- the gate, or a sector of the blocks that a map takes which gives the slots so
abbrev pub IsGateOrNoted : ℕ → Bool → (Bool → ℕ → ℕ) → ℕ → Type 0
IsGateOrNoted m second entries k = (k ≡ pool_gate) ⊎ IsNotedMap m second entries k

-- the gate of an image, or a sector of the map that it names: of its first block, or of the others that count
abbrev pub IsGateOrNamed : ℕ → Image → ℕ → Type 0
IsGateOrNamed m image k = (k ≡ pool_gate) ⊎ IsCountedMap m (pool_named image) (pool_counted m (pool_named image) image) k

-- Gate and named map of an image are read, each sector once at most, and then gate and other map written, each sector once at most.
pub record ReadsThenWrites (m : ℕ) (image : Image) (before now : ℕ → ℕ) : Type 0 where
  pub between : ℕ → ℕ
  pub reads : NamesOnce (IsGateOrNamed m image) before between
  pub writes : NamesOnce (IsGateOrMap m (not (pool_named image))) between now

-- The next map becomes the journal's, and the gate names this one:
pub record TakesNext (second : Bool) (old new : PoolJournal) : Type 0 where
  pub is : IsPoolJournal new
  pub sizes : new.sizes ≡ old.sizes
  pub second_is : new.second ≡ second
  pub map : new.map ≡ old.next

-- The gate names a journal's map in this place:
pub record FacesMap (second : Bool) (old new : PoolJournal) : Type 0 where
  pub is : IsPoolJournal new
  pub sizes : new.sizes ≡ old.sizes
  pub second_is : new.second ≡ second
  pub map : new.map ≡ old.map

module _ {D : Type 0} (g : Ghosts D) where
  -- Under stops that may spoil whole blocks of 4,096 bytes a map is written anew, or so far that: first its sectors, and after a sync the gate.
  abbrev pub AnewInBlocks : ℕ → Bool → (Image → Type 0) → D → D → Type 0
  AnewInBlocks m second P old new = LeavesInBlocks g (IsPoolMap m second) P old new
      ⊎ ((mid : D) × LeavesInBlocks g (IsPoolMap m second) P old mid × LeavesInBlocks g IsPoolGate P mid new)

  -- A recovery: it writes nothing, or after a look the map anew.
  abbrev pub RestoresInBlocks : ℕ → Bool → (Image → Type 0) → D → D → Type 0
  RestoresInBlocks m second P old new = Touches g Nothing old new ⊎ ((read : D) × Touches g Nothing old read × AnewInBlocks m second P read new)

  -- The journal of a pool is taken up as it stands:
  pub record ResumesPool (was now : PoolJournal) (old new : D) (result : Result (Unit {0}) DiskFault) : Type 0 where
    -- its map is the one that the gate names, and gives the slots as that does;
    pub named : g.keeps_model new → OnOk result (now.second ≡ pool_named (g.content old))
    pub map : g.keeps_model new → OnOk result (GivesAsNamed was.sizes now.map (g.content old))
    -- the device is at rest under it and stands for what it did, now and after every stop,
    pub settled : g.keeps_model new → OnOk result (IsSettled (layout_in was.sizes) g (g.sector_count old) (g.content old) (state_of now) new ((layout_in was.sizes).standing (g.content old)))
    pub synced : g.keeps_model new → (k : ℕ) → g.unsynced new k → ⊥
    -- as at every moment of the call;
    pub any_moment : g.keeps_model new → KeepsHomes (layout_in was.sizes) g old new
    -- it is read alone, the gate and what counts of that map, each sector once at most;
    pub reads : ReadsOnly g old new result
    pub open reads use *
    pub once : g.keeps_model new → NamesOnce (IsGateOrNamed was.sizes.blocks (g.content old)) (g.asked old) (g.asked new)
    -- whatever comes, the journal is one of the same pool.
    pub is : IsPoolJournal now
    pub sizes : now.sizes ≡ was.sizes

  -- What a journal's map says is written anew:
  pub record WritesAnew (was now : PoolJournal) (old new : D) (result : Result (Unit {0}) DiskFault) : Type 0 where
    -- the device stands for what it did, with nothing unsynced, or failed: the gate and what the map takes of the other one's place are written, each sector once at most;
    pub writes : SyncsInto g (IsGateOrMap was.sizes.blocks (not was.second)) (IsGateOrNoted was.sizes.blocks (not was.second) (entries_of was.map))
        (IsSettled (layout_in was.sizes) g (g.sector_count old) (g.content old) (state_of now) new ((layout_in was.sizes).standing (g.content old))) old new result
    pub open writes use *
    -- so does every image of a stop at any moment of the call, even of one that spoils whole blocks of 4,096 bytes;
    pub any_moment : g.keeps_model new → KeepsHomes (layout_in was.sizes) g old new
    pub blocks : g.keeps_model new → AnewInBlocks was.sizes.blocks (not was.second) (HomesStandAs (layout_in was.sizes) (g.sector_count old) (g.content old)) old new
    -- the gate names the other map then, or nothing was done, where no slot is given to a home;
    pub turned : (GivesNone was.sizes.blocks (entries_of was.map) → ⊥) → OnOk result (now.second ≡ not was.second)
    pub idle : GivesNone was.sizes.blocks (entries_of was.map) → new ≡ old
    -- whatever comes, the journal is one of the same pool with the same map.
    pub is : IsPoolJournal now
    pub sizes : now.sizes ≡ was.sizes
    pub map : now.map ≡ was.map

  -- The journal of a pool is recovered:
  pub record RecoversPool (was now : PoolJournal) (old new : D) (result : Result (Unit {0}) RecoverFault) : Type 0 where
    -- what stood is restored, and the device is at rest under the journal,
    pub restores : Restores g (layout_in was.sizes) (λ done. state_of now) old new result
    pub open restores use *
    -- and a stop may even spoil whole blocks of 4,096 bytes;
    pub blocks : g.keeps_model new → RestoresInBlocks was.sizes.blocks (not (pool_named (g.content old))) (HomesStandAs (layout_in was.sizes) (g.sector_count old) (g.content old)) old new
    -- its map gives the slots as the one did that the gate named;
    pub map : g.keeps_model new → OnOk result (GivesAsNamed was.sizes now.map (g.content old))
    -- where that gave one to a home, it is written anew, and the gate names the other one;
    pub anew : g.keeps_model new → ((layout_in was.sizes).IsClosed (g.content old) → ⊥) → OnOk result (now.second ≡ not (pool_named (g.content old)))
    -- no sector is asked for more often than that takes;
    pub once : g.keeps_model new → ReadsThenWrites was.sizes.blocks (g.content old) (g.asked old) (g.asked new)
    -- whatever comes, the journal is one of the same pool.
    pub is : IsPoolJournal now
    pub sizes : now.sizes ≡ was.sizes
