-- What a commit over the journal of a pool comes to.
use Rattle.std.specs.Prelude.{ℕ, ◌*◌, ◌<◌, ◌≤◌, ◌≡◌, ◌⊎◌, Bool, not, List, length, get_or, None, Result, OnOk, IsErrOf}
use Rattle.disk_model.specs.{Moments.{AsksOnly}, Sectors.{part_of}, Stop.{Image, NamesOnce}}
use Rattle.disk_model.specs.declared.sector_disk.SectorDisk.{Ghosts}
use Rattle.pool_journal.specs.Blocks.{IsNotedMap}
use Rattle.pool_journal.specs.Commit.{GivesHomes, KeepsOthers, TakesFree, IsDropped, IsTaken}
use Rattle.pool_journal.specs.Gates.{IsPoolGate}
use Rattle.pool_journal.specs.Giving.{AreRising}
use Rattle.pool_journal.specs.Journal.{IsPoolJournal, free_count}
use Rattle.pool_journal.specs.Maps.{entries_of}
use Rattle.pool_journal.specs.Pools.{pool, pool_entry, pool_standing, IsLoose, IsLooseSlot, IsPoolMap, IsSingle}
use Rattle.pool_journal.specs.Room.{ChangesNext}
use Rattle.pool_journal.specs.declared.pool.PoolJournal.{PoolJournal}
use Rattle.sync_journal.specs.{Blocks.{LeavesInBlocks}, Committing.{CommitsOver, HomesStandOr}, Map.{home_rank}, Source.{IsTold}, Steps.{TakesPages}}
use Rattle.sync_journal.specs.declared.faults.CommitFault.{CommitFault}
use Rattle.sync_journal.specs.declared.faults.CommitFault.TheVariants.{Source}
use Rattle.sync_journal.specs.declared.source.PageSource as Pages

-- Pages are given for homes of a pool:
pub record GivesInPool {S : Type 0} (s : Pages.Ghosts S) (journal : PoolJournal) (homes : List ℕ) (source : S) : Type 0 where
  -- these rise,
  pub rising : AreRising homes
  -- the device has each of them,
  pub inside : (j : ℕ) → j < length homes → get_or homes j 0 < journal.sizes.homes
  -- as many slots are free,
  pub few : length homes ≤ free_count journal.sizes.blocks (entries_of journal.map)
  -- and the source gives a page for each.
  pub gives : (i : ℕ) → i < length homes → s.gives source i

-- what a commit asks for before the gate: pages that it drops, slots that are free, and the other map
abbrev pub IsPoolStaged : ℕ → Bool → (Bool → ℕ → ℕ) → List ℕ → ℕ → Type 0
IsPoolStaged m second was homes k = (IsDropped m was homes k ⊎ IsLooseSlot m was k) ⊎ IsPoolMap m (not second) k

-- what it asks for in all when its map gives the slots so: of slots that were free, those that it gives to homes
abbrev pub IsPoolNoted : ℕ → Bool → (Bool → ℕ → ℕ) → (Bool → ℕ → ℕ) → List ℕ → ℕ → Type 0
IsPoolNoted m second was now homes k = (IsDropped m was homes k ⊎ IsTaken m was now k) ⊎ IsNotedMap m (not second) now k

-- A commit up to its first sync, or beyond that: then first what is loose, and after a sync the gate. After whatever part of that a stop may spoil whole blocks.
abbrev pub PoolCommitsInBlocks : {D : Type 0} → Ghosts D → ℕ → Bool → (Bool → ℕ → ℕ) → (Image → Type 0) → D → D → Type 0
PoolCommitsInBlocks g m second was P old new = LeavesInBlocks g (IsLoose m second was) P old new
    ⊎ ((mid : _) × LeavesInBlocks g (IsLoose m second was) P old mid × LeavesInBlocks g IsPoolGate P mid new)

module _ {D S : Type 0} (g : Ghosts D) (s : Pages.Ghosts S) where
  -- All of a commit is written and synced, but the gate:
  pub record StagesCommit (homes : List ℕ) (was now : PoolJournal) (old new : D) (from left : S) (result : Result (Unit {0}) CommitFault) : Type 0 where
    -- the next map gives slots that hold the new pages, as far as these are told, to the homes,
    pub gives : g.keeps_model new → OnOk result ((thin : Bool → ℕ → ℕ) × GivesHomes was.sizes.blocks (entries_of was.map) thin (entries_of now.next) homes (IsTold s from left) (s.pages from) (g.content old) (g.content new))
    -- which were free;
    pub placed : OnOk result (TakesFree was.sizes.blocks (entries_of was.map) (entries_of now.next))
    -- under it, whatever the source gives, each other home stands as it did;
    pub others : g.keeps_model new → OnOk result (KeepsOthers was.sizes.blocks (entries_of was.map) (entries_of now.next) homes (g.content old) (g.content new))
    -- it gives none to a home that the device hasn't,
    pub homes_are : OnOk result ((body : Bool) (r : ℕ) → entries_of now.next body r ≤ was.sizes.homes)
    -- nor two to one where none had two;
    pub single : IsSingle was.sizes.blocks (entries_of was.map) → OnOk result (IsSingle was.sizes.blocks (entries_of now.next))
    -- it leaves as many slots free as a body has, where these are no more;
    pub room : OnOk result (length homes ≤ 504 * was.sizes.blocks → 504 * was.sizes.blocks ≤ free_count was.sizes.blocks (entries_of now.next))
    -- it stands beside the one that is named,
    pub mapped : g.keeps_model new → OnOk result ((body : Bool) (r : ℕ) → r < 504 * was.sizes.blocks → pool_entry was.sizes.blocks was.sizes.homes (not was.second) (g.content new) body r ≡ entries_of now.next body r)
    -- and nothing is unsynced.
    pub synced : g.keeps_model new → OnOk result ((k : ℕ) → g.unsynced new k → ⊥)
    -- No sector is written but loose ones, and each fault has its cause;
    pub takes : TakesPages g s (IsLoose was.sizes.blocks was.second (entries_of was.map)) old new from left result
    pub open takes use *
    -- none is asked for but pages that are dropped, free slots and the other map, and where no home has two slots none twice;
    pub asks_device : AsksOnly g (IsPoolStaged was.sizes.blocks was.second (entries_of was.map) homes) old new
    pub noted : OnOk result (AsksOnly g (IsPoolNoted was.sizes.blocks was.second (entries_of was.map) (entries_of now.next) homes) old new)
    pub once : IsSingle was.sizes.blocks (entries_of was.map) → NamesOnce (IsPoolStaged was.sizes.blocks was.second (entries_of was.map) homes) (g.asked old) (g.asked new)
    -- and nothing of the journal changes but the next map.
    pub changes : ChangesNext was now

  -- A pool's journal commits:
  pub record CommitsInPool (was now : PoolJournal) (homes : List ℕ) (old new : D) (from left : S) (result : Result (Unit {0}) CommitFault) : Type 0 where
    -- the device stands for the pages, all at once;
    pub puts : CommitsOver g s (pool was.sizes.blocks was.sizes.homes) (was.second, entries_of was.map) (not was.second, entries_of now.map) (was.second, entries_of was.map) homes old new from left result
    pub open puts use *
    -- whatever the source gives else, the pages that it is sure of stand for their homes,
    pub sure : g.keeps_model new → OnOk result ((j i : ℕ) → j < length homes → i < 8 → s.sure from j
        → pool_standing was.sizes.blocks was.sizes.homes (g.content new) (get_or homes j 0) i ≡ part_of (s.pages from j) i)
    -- and each other home stands as it did;
    pub others : g.keeps_model new → OnOk result ((h i : ℕ) → home_rank homes h ≡ None → i < 8
        → pool_standing was.sizes.blocks was.sizes.homes (g.content new) h i ≡ pool_standing was.sizes.blocks was.sizes.homes (g.content old) h i)
    -- a stop may even spoil whole blocks of 4,096 bytes;
    pub blocks : g.keeps_model new → s.keeps_model left → PoolCommitsInBlocks g was.sizes.blocks was.second (entries_of was.map)
        (HomesStandOr (pool was.sizes.blocks was.sizes.homes) (g.sector_count old) homes (s.pages from) (g.content old)) old new
    -- the gate names the other map, which is the one in memory, and all of it is synced;
    pub second : OnOk result (now.second ≡ not was.second)
    pub synced : g.keeps_model new → OnOk result ((k : ℕ) → g.unsynced new k → ⊥)
    -- it gives homes only slots that were free, or that they had,
    pub placed : OnOk result (TakesFree was.sizes.blocks (entries_of was.map) (entries_of now.map))
    -- and no home two where none had;
    pub single : IsSingle was.sizes.blocks (entries_of was.map) → OnOk result (IsSingle was.sizes.blocks (entries_of now.map))
    -- as many slots are free as a body has, where it took no more;
    pub room : OnOk result (length homes ≤ 504 * was.sizes.blocks → 504 * was.sizes.blocks ≤ free_count was.sizes.blocks (entries_of now.map))
    -- the gate, that map, free slots, and pages that have to be dropped are asked for alone;
    pub asks_device : AsksOnly g (λ k. IsPoolGate k ⊎ IsPoolStaged was.sizes.blocks was.second (entries_of was.map) homes k) old new
    -- of slots and of the map no more than it takes;
    pub noted : OnOk result (AsksOnly g (λ k. IsPoolGate k ⊎ IsPoolNoted was.sizes.blocks was.second (entries_of was.map) (entries_of now.map) homes k) old new)
    -- the journal is one of a pool that is as large as it was,
    pub is : IsPoolJournal now
    pub sizes : now.sizes ≡ was.sizes
    -- and where the source failed it is as it was.
    pub second_stays : IsErrOf result Source → now.second ≡ was.second
    pub map : IsErrOf result Source → now.map ≡ was.map
    pub free : IsErrOf result Source → now.free ≡ was.free
