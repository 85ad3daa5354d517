-- A store of which nothing is unsynced, taken up as it stands.
use Rattle.std.specs.Prelude.{ℕ, ◌≡◌, true, []}
use Rattle.disk_model.specs.Moments.{Touches, Nothing, LeavesNow}
use Rattle.disk_model.specs.Stop.{Image, NamesOnce}
use Rattle.disk_model.specs.declared.sector_disk.SectorDisk.{Ghosts}
use Rattle.sync_journal.specs.Journal.{live_homes}
use Rattle.pool_journal.specs.{Pools.{pool_named}, Recovering.{GivesAsNamed}}
use Rattle.file_store.specs.Standing.{AreBounded}
use Rattle.pool_store.specs.Resume.{IsReadOf}
use Rattle.stores.specs.Commit.{KeepsHomesIn}
use Rattle.stores.specs.Images.{is_pool, most_pages, free_pages, IsBadLayout, IsBadJournal, StandsAs}
use Rattle.stores.specs.Opened.{RefusesToOpen, RunsOpening}
use Rattle.stores.specs.Store.{StoreKept, StoreKept.{OfJournal, OfPool}, disk_of, kept_of, files_of, free_of, always_free_in, IsReadyStore}
use Rattle.stores.specs.declared.faults.OpenFault.{OpenFault}
use Rattle.stores.specs.declared.store.{Store.{Store}, Store.TheVariants.{Journal, Pool}}

-- The journal is as this image has it: of layout 2 no page stands in it alone any more; of a pool it has the map that the gate names.
abbrev pub IsAsNamed : StoreKept → Image → Type 0
IsAsNamed (OfJournal directory journal) image = live_homes journal ≡ []
IsAsNamed (OfPool directory journal) image = (journal.second ≡ pool_named image) × GivesAsNamed journal.sizes journal.map image

module _ {D : Type 0} (g : Ghosts D) where
  -- Whatever comes of it,
  pub record RunsResuming (old new : D) : Type 0 where
    -- no more is done than by an opening,
    pub run : RunsOpening g old new
    pub open run use *
    -- and of a pool nothing is written.
    pub pool_unwritten : g.keeps_model new → is_pool (g.content old) ≡ true → Touches g Nothing old new

  -- Of layout 4 these sectors are looked at, each once at most, and then what counts is read, none of it twice.
  abbrev pub ResumesOnce : (ℕ → Type 0) → D → Store D → Type 0
  ResumesOnce looks old (Journal store) = Unit {0}
  ResumesOnce looks old (Pool store) = (looked : D) × NamesOnce looks (g.asked old) (g.asked looked)
      × NamesOnce (IsReadOf store (g.content old)) (g.asked looked) (g.asked store.disk)

  -- The store on a device is taken up as it stands, with a look at these sectors before:
  pub record ResumesWith (looks : ℕ → Type 0) (old : D) (store : Store D) : Type 0 where
    pub resuming : RunsResuming old (disk_of store)
    pub open resuming use *
    -- it may be read and committed to, and its files' numbers and lengths are in their bounds;
    pub ready : IsReadyStore g store
    pub bounded : AreBounded (files_of store)
    -- its image is that of a store, and stands for what it did, from now on, and so does every home, the bytes past its file's end too, with nothing
    -- unsynced;
    pub good_layout : g.keeps_model (disk_of store) → IsBadLayout (g.sector_count old) (g.content old) → ⊥
    pub good_journal : g.keeps_model (disk_of store) → IsBadJournal (g.sector_count old) (g.content old) → ⊥
    pub now : g.keeps_model (disk_of store) → LeavesNow g (disk_of store) (StandsAs (g.sector_count old) (g.content old))
    pub homes : g.keeps_model (disk_of store) → LeavesNow g (disk_of store) (KeepsHomesIn (kept_of store) (g.sector_count old) (g.content old))
    pub synced : g.keeps_model (disk_of store) → (k : ℕ) → g.unsynced (disk_of store) k → ⊥
    -- the next commit goes on from what its gate names, and it and every other one may take as many pages as the image says;
    pub named : g.keeps_model (disk_of store) → IsAsNamed (kept_of store) (g.content old)
    pub free : g.keeps_model (disk_of store) → free_of store ≡ free_pages (g.sector_count old) (g.content old)
    pub most : g.keeps_model (disk_of store) → always_free_in (kept_of store) ≡ most_pages (g.sector_count old) (g.content old)
    -- no sector is asked for more often than that takes,
    pub once : g.keeps_model (disk_of store) → ResumesOnce looks old store
    -- and the device did not fail.
    pub calm : g.failures (disk_of store) ≡ g.failures old

  -- that is, at the mark
  abbrev pub ResumesFrom : D → Store D → Type 0
  ResumesFrom = ResumesWith (λ k. k ≡ 0)

  -- The device is given back with this fault, as by an opening:
  pub record RefusesToResume (old : D) (fault : OpenFault) (new : D) : Type 0 where
    pub refused : RefusesToOpen g old fault new
    pub resuming : RunsResuming old new
