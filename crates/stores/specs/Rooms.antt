-- Room for the next commit: of a pool it is short after a commit of more pages than a body has slots. And homes at idle.
use Rattle.std.specs.Prelude.{ℕ, ◌≤◌, ◌≡◌, true, List, [], Option, Result, OnOk}
use Rattle.vm_types.specs.declared.file.FileInfo.{FileInfo}
use Rattle.disk_model.specs.{Moments.{Touches, AsksOnly, LeavesOnly, LeavesNow}, Stop.{HasCause}}
use Rattle.disk_model.specs.declared.sector_disk.{DiskFault.{DiskFault}, SectorDisk.{Ghosts}}
use Rattle.pool_journal.specs.{Maps.{entries_of}, Tidying.{IsTidied}}
use Rattle.stores.specs.Commit.{AsksOnceIn, CommitsInBlocksIn, IsSingleIn, KeepsHomesIn}
use Rattle.stores.specs.Images.{is_pool, IsClosed, StandsFor, SaysMostOf}
use Rattle.stores.specs.Store.{StoreKept, StoreKept.{OfJournal, OfPool}, disk_of, kept_of, directory_of, free_of, free_in, always_free_in, capacity_in, IsUsedIn, IsCommittedIn, IsReadyStore}
use Rattle.stores.specs.declared.store.Store.{Store}

-- The next commit may take as many pages as any: all slots of a pool are free.
abbrev pub IsTidyIn : StoreKept → Type 0
IsTidyIn kept = free_in kept ≡ capacity_in kept

-- what is asked for then: of a pool the gate, the slots that are given, their homes, and the first block of the other map
abbrev pub IsTidiedIn : StoreKept → ℕ → Type 0
IsTidiedIn (OfJournal directory journal) k = ⊥
IsTidiedIn (OfPool directory journal) k = IsTidied journal.sizes.blocks journal.second (entries_of journal.map) k

module _ {D : Type 0} (g : Ghosts D) where
  -- Pages go home, so that more slots are free:
  pub record FreesSlots (old new : Store D) (result : Result (Unit {0}) DiskFault) : Type 0 where
    -- the store is ready after Ok.
    pub ready : OnOk result (IsReadyStore g new)
    -- Whatever comes of it, every image of a stop from now on, and at every moment of the call, of layout 4 even of one that spoils whole blocks of 4,096
    -- bytes, stands for the files that it stood for,
    pub stands : g.keeps_model (disk_of new) → (files : ℕ → Option FileInfo) (pages : ℕ → ℕ → List ℕ)
        → LeavesNow g (disk_of old) (StandsFor (g.sector_count (disk_of old)) files pages)
        → LeavesNow g (disk_of new) (StandsFor (g.sector_count (disk_of old)) files pages)
    pub any_moment : g.keeps_model (disk_of new) → (files : ℕ → Option FileInfo) (pages : ℕ → ℕ → List ℕ)
        → LeavesNow g (disk_of old) (StandsFor (g.sector_count (disk_of old)) files pages)
        → LeavesOnly g (disk_of old) (disk_of new) (StandsFor (g.sector_count (disk_of old)) files pages)
    pub blocks : g.keeps_model (disk_of new) → (files : ℕ → Option FileInfo) (pages : ℕ → ℕ → List ℕ)
        → LeavesNow g (disk_of old) (StandsFor (g.sector_count (disk_of old)) files pages)
        → CommitsInBlocksIn g (kept_of old) (StandsFor (g.sector_count (disk_of old)) files pages) (disk_of old) (disk_of new)
    -- what stood for each home stands for it,
    pub homes : g.keeps_model (disk_of new)
        → LeavesNow g (disk_of new) (KeepsHomesIn (kept_of old) (g.sector_count (disk_of old)) (g.content (disk_of old)))
    pub homes_moment : g.keeps_model (disk_of new)
        → LeavesOnly g (disk_of old) (disk_of new) (KeepsHomesIn (kept_of old) (g.sector_count (disk_of old)) (g.content (disk_of old)))
    pub homes_blocks : g.keeps_model (disk_of new)
        → CommitsInBlocksIn g (kept_of old) (KeepsHomesIn (kept_of old) (g.sector_count (disk_of old)) (g.content (disk_of old))) (disk_of old) (disk_of new)
    -- and every commit may take as many pages as before, as every such image says;
    pub most_moment : g.keeps_model (disk_of new) → LeavesOnly g (disk_of old) (disk_of new) (SaysMostOf (g.sector_count (disk_of old)) (g.content (disk_of old)))
    pub always : always_free_in (kept_of new) ≡ always_free_in (kept_of old)
    -- directory and size are kept,
    pub files : directory_of new ≡ directory_of old
    pub size : g.sector_count (disk_of new) ≡ g.sector_count (disk_of old)
    pub kept : g.keeps_model (disk_of new) → g.keeps_model (disk_of old)
    pub single : IsSingleIn (kept_of old) → OnOk result (IsSingleIn (kept_of new))
    -- of the device no sector is asked for but those that a commit uses, and of these no more than it takes, none more often than one of no pages takes,
    -- and no other is written than those that it writes,
    pub asks : AsksOnly g (IsUsedIn (kept_of old)) (disk_of old) (disk_of new)
    pub asks_tidied : AsksOnly g (IsTidiedIn (kept_of old)) (disk_of old) (disk_of new)
    pub once : AsksOnceIn g (kept_of old) [] (disk_of old) (disk_of new)
    pub touches : g.keeps_model (disk_of new) → Touches g (IsCommittedIn (kept_of old)) (disk_of old) (disk_of new)
    -- and a fault is told exactly where the device failed.
    pub cause : HasCause (g.failures (disk_of old)) (g.failures (disk_of new)) result

  -- A store makes room for a commit of so many pages:
  pub record MakesRoomFor (count : ℕ) (old new : Store D) (result : Result (Unit {0}) DiskFault) : Type 0 where
    pub frees : FreesSlots old new result
    pub open frees use *
    -- after Ok as many are free;
    pub room : OnOk result (count ≤ free_of new)
    -- where as many were free already, nothing is done.
    pub idle : count ≤ free_of old → new ≡ old

  -- A store is tidied:
  pub record TidiesStore (old new : Store D) (result : Result (Unit {0}) DiskFault) : Type 0 where
    pub frees : FreesSlots old new result
    pub open frees use *
    -- after Ok all slots of a pool are free, and no page stands in one of them alone;
    pub tidy : OnOk result (IsTidyIn (kept_of new))
    pub closed : g.keeps_model (disk_of new) → OnOk result (is_pool (g.content (disk_of new)) ≡ true → IsClosed (g.sector_count (disk_of new)) (g.content (disk_of new)))
    -- where all were free already, and of layout 2, nothing is done;
    pub idle : IsTidyIn (kept_of old) → new ≡ old
    -- and nothing is unsynced, but what was where nothing was done.
    pub synced : g.keeps_model (disk_of new) → OnOk result ((k : ℕ) → g.unsynced (disk_of new) k → g.unsynced (disk_of old) k × IsTidyIn (kept_of old))
