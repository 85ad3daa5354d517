-- Homes at idle: all pages that stand in slots of a pool are copied home, and no slot is given to a home then.
use Rattle.std.specs.Prelude.{ℕ, ◌+◌, ◌-◌, ◌*◌, ◌<◌, ◌≡◌, ◌⊎◌, Bool, not, Result, OnOk, IsErr}
use Rattle.disk_model.specs.{Moments.{AsksOnly}, Stop.{NamesOnce}}
use Rattle.disk_model.specs.declared.sector_disk.{DiskFault.{DiskFault}, SectorDisk.{Ghosts}}
use Rattle.pool_journal.specs.Commit.{IsMoved}
use Rattle.pool_journal.specs.Committing.{PoolCommitsInBlocks}
use Rattle.pool_journal.specs.Copying.{HoldsHomes}
use Rattle.pool_journal.specs.Gates.{IsPoolGate}
use Rattle.pool_journal.specs.Journal.{IsPoolJournal, free_count}
use Rattle.pool_journal.specs.Maps.{entries_of, IsEmptyMap}
use Rattle.pool_journal.specs.Pools.{pool_start, pool_entry, IsLoose, IsSingle}
use Rattle.pool_journal.specs.Recovering.{layout_in, state_of, GivesNone}
use Rattle.pool_journal.specs.Room.{ChangesNext}
use Rattle.pool_journal.specs.declared.pool.PoolJournal.{PoolJournal}
use Rattle.sync_journal.specs.{Layout.{IsPageSector}, Layouts.{HomesStandAs, IsSettled, KeepsHomes}, Runs.{RunsOnDevice}}

-- the first block of a map, which is all of it that counts where it gives no slot to a home
abbrev pub IsFirstBlock : ℕ → Bool → ℕ → Type 0
IsFirstBlock m second k = IsPageSector (pool_start m second + 8 * (m - 1)) k

-- what is asked for before the gate when all pages are copied home: the slots that a map gives, their homes, and the first block of the other map
abbrev pub IsBrought : ℕ → Bool → (Bool → ℕ → ℕ) → ℕ → Type 0
IsBrought m second entries k = IsMoved m entries k ⊎ IsFirstBlock m (not second) k

-- and with the gate
abbrev pub IsTidied : ℕ → Bool → (Bool → ℕ → ℕ) → ℕ → Type 0
IsTidied m second entries k = IsPoolGate k ⊎ IsBrought m second entries k

module _ {D : Type 0} (g : Ghosts D) where
  -- All pages that stand in slots are brought home, and the gate is not written yet:
  pub record BringsHome (was now : PoolJournal) (old new : D) (result : Result (Unit {0}) DiskFault) : Type 0 where
    -- each home that has a slot holds what its first slot held,
    pub homes : g.keeps_model new → OnOk result (HoldsHomes was.sizes.blocks (entries_of was.map) (g.content old) (g.content new))
    -- beside the named map one stands that gives no slot to a home, which is the next one,
    pub empty : OnOk result (IsEmptyMap now.next)
    pub mapped : g.keeps_model new → OnOk result ((body : Bool) (r : ℕ) → r < 504 * was.sizes.blocks → pool_entry was.sizes.blocks was.sizes.homes (not was.second) (g.content new) body r ≡ entries_of now.next body r)
    -- and nothing is unsynced.
    pub synced : g.keeps_model new → OnOk result ((k : ℕ) → g.unsynced new k → ⊥)
    -- No sector is written but loose ones,
    pub run : RunsOnDevice g (IsLoose was.sizes.blocks was.second (entries_of was.map)) old new
    pub open run use *
    -- nor any asked for but these slots, their homes and that map, and where no home has two slots none twice;
    pub asks : AsksOnly g (IsBrought was.sizes.blocks was.second (entries_of was.map)) old new
    pub once : IsSingle was.sizes.blocks (entries_of was.map) → NamesOnce (IsBrought was.sizes.blocks was.second (entries_of was.map)) (g.asked old) (g.asked new)
    -- or the device failed,
    pub failed : IsErr result → g.failures old < g.failures new
    pub calm : OnOk result (g.failures new ≡ g.failures old)
    -- and nothing of the journal changes but the next map.
    pub changes : ChangesNext was now

  -- A pool is tidied:
  pub record TidiesPool (was now : PoolJournal) (old new : D) (result : Result (Unit {0}) DiskFault) : Type 0 where
    -- the device is at rest under the journal and stands for what it did, now and after every stop,
    pub settled : g.keeps_model new → OnOk result (IsSettled (layout_in was.sizes) g (g.sector_count old) (g.content old) (state_of now) new ((layout_in was.sizes).standing (g.content old)))
    -- with no slot that is given to a home, so that all are free,
    pub none : OnOk result (GivesNone was.sizes.blocks (entries_of now.map))
    pub all : OnOk result (free_count was.sizes.blocks (entries_of now.map) ≡ 2 * (504 * was.sizes.blocks))
    -- and nothing unsynced, but what was, where none was given;
    pub synced : g.keeps_model new → OnOk result ((k : ℕ) → g.unsynced new k → g.unsynced old k × GivesNone was.sizes.blocks (entries_of was.map))
    -- every image of a stop at any moment of the call stands for the same, even of one that spoils whole blocks of 4,096 bytes;
    pub any_moment : g.keeps_model new → KeepsHomes (layout_in was.sizes) g old new
    pub blocks : g.keeps_model new → PoolCommitsInBlocks g was.sizes.blocks was.second (entries_of was.map) (HomesStandAs (layout_in was.sizes) (g.sector_count old) (g.content old)) old new
    -- the gate names the other map then, or nothing was done, where none was given.
    pub turned : (GivesNone was.sizes.blocks (entries_of was.map) → ⊥) → OnOk result (now.second ≡ not was.second)
    pub idle : GivesNone was.sizes.blocks (entries_of was.map) → (new ≡ old) × (now ≡ was)
    -- No sector is written but the gate and loose ones,
    pub run : RunsOnDevice g (λ k. IsPoolGate k ⊎ IsLoose was.sizes.blocks was.second (entries_of was.map) k) old new
    pub open run use *
    -- nor any asked for but the gate, the slots that are given, their homes, and the first block of the other map, and where no home has two slots none twice;
    pub asks : AsksOnly g (IsTidied was.sizes.blocks was.second (entries_of was.map)) old new
    pub once : IsSingle was.sizes.blocks (entries_of was.map) → NamesOnce (IsTidied was.sizes.blocks was.second (entries_of was.map)) (g.asked old) (g.asked new)
    -- or the device failed.
    pub failed : IsErr result → g.failures old < g.failures new
    pub calm : OnOk result (g.failures new ≡ g.failures old)
    -- Whatever comes, the journal is one of the same pool.
    pub is : IsPoolJournal now
    pub sizes : now.sizes ≡ was.sizes
