-- A store that is opened, as a stop left it or as whoever had it last.
use Rattle.std.specs.Prelude.{ℕ, zero, suc, ◌<◌, ◌≤◌, ◌≡◌, ◌⊎◌, true, false, not, []}
use Rattle.disk_model.specs.Moments.{Touches, AsksOnly, Nothing, LeavesOnly, LeavesNow}
use Rattle.disk_model.specs.Stop.{Image, NamesOnce}
use Rattle.disk_model.specs.declared.sector_disk.SectorDisk.{Ghosts}
use Rattle.sync_journal.specs.Journal.{live_homes}
use Rattle.pool_journal.specs.{Pools.{pool, pool_named}, Recovering.{GivesAsNamed, RestoresInBlocks}}
use Rattle.file_store.specs.Standing.{AreBounded}
use Rattle.pool_store.specs.{Opened.{ReadsThenRenews}, Resume.{HasPoolHead}}
use Rattle.stores.specs.Commit.{KeepsHomesIn}
use Rattle.stores.specs.Images.{is_pool, map_blocks, most_pages, IsBadLayout, IsBadJournal, IsClosed, IsOutside, IsAskedToOpen, IsWrittenToOpen, SaysMostOf, StandsAs}
use Rattle.stores.specs.Store.{StoreKept, StoreKept.{OfJournal, OfPool}, disk_of, kept_of, files_of, always_free_in, IsReadyStore}
use Rattle.stores.specs.declared.faults.OpenFault.{OpenFault}
use Rattle.stores.specs.declared.faults.OpenFault.TheVariants.{Device, BadLayout, BadJournal, Memory}
use Rattle.stores.specs.declared.store.{Store.{Store}, Store.TheVariants.{Journal, Pool}}

-- What a stop left in this image is carried out: of layout 2 no page stands in the journal alone any more; of a pool the map is the one that its gate
-- named, and if that gave a slot to a home it is written anew, in the place of the other one, which the gate then names.
abbrev pub IsCarriedOut : StoreKept → Image → Type 0
IsCarriedOut (OfJournal directory journal) image = live_homes journal ≡ []
IsCarriedOut (OfPool directory journal) image = GivesAsNamed journal.sizes journal.map image
    × (((pool journal.sizes.blocks journal.sizes.homes).IsClosed image → ⊥) → journal.second ≡ not (pool_named image))

module _ {D : Type 0} (g : Ghosts D) where
  -- Whatever comes of an opening,
  pub record RunsOpening (old new : D) : Type 0 where
    -- the device keeps its size, and forgets no failure;
    pub size : g.sector_count new ≡ g.sector_count old
    pub kept : g.keeps_model new → g.keeps_model old
    pub later : g.failures old ≤ g.failures new
    -- no sector is asked for or written but those that an opening asks for, and writes, and where no page stands in a journal or a slot alone none is
    -- written;
    pub asks : g.keeps_model new → AsksOnly g (IsAskedToOpen (g.sector_count old) (g.content old)) old new
    pub touches : g.keeps_model new → Touches g (IsWrittenToOpen (g.sector_count old) (g.content old)) old new
    pub closed_unwritten : g.keeps_model new → IsClosed (g.sector_count old) (g.content old) → Touches g Nothing old new
    pub outside : g.keeps_model new → (k : ℕ) → IsOutside (g.sector_count old) (g.content old) k → g.content new k ≡ g.content old k
    -- and where nothing was unsynced, as after a stop, every image of a stop at any moment of the call stands for what the device stood for at first, of
    -- layout 4 even one that spoils whole blocks of 4,096 bytes, and says of commits what that said.
    pub any_moment : g.keeps_model new → ((k : ℕ) → g.unsynced old k → ⊥) → LeavesOnly g old new (StandsAs (g.sector_count old) (g.content old))
    pub blocks : g.keeps_model new → ((k : ℕ) → g.unsynced old k → ⊥) → is_pool (g.content old) ≡ true
        → RestoresInBlocks g (map_blocks (g.content old)) (not (pool_named (g.content old))) (StandsAs (g.sector_count old) (g.content old)) old new
    pub most_moment : g.keeps_model new → ((k : ℕ) → g.unsynced old k → ⊥) → LeavesOnly g old new (SaysMostOf (g.sector_count old) (g.content old))

  -- Of layout 4 these sectors are looked at, each once at most, and then what counts is read, none of it twice, and what it takes of the other map is
  -- written, each once at most.
  abbrev pub OpensOnce : (ℕ → Type 0) → D → Store D → Type 0
  OpensOnce looks old (Journal store) = Unit {0}
  OpensOnce looks old (Pool store) = (looked : D) × NamesOnce looks (g.asked old) (g.asked looked) × ReadsThenRenews g store (g.content old) looked store.disk

  -- The store on a device is opened, with a look at these sectors before:
  pub record OpensWith (looks : ℕ → Type 0) (old : D) (store : Store D) : Type 0 where
    pub run : RunsOpening old (disk_of store)
    pub open run use *
    -- it may be read and committed to, and its files' numbers and lengths are in their bounds;
    pub ready : IsReadyStore g store
    pub bounded : AreBounded (files_of store)
    -- its image was that of a store, and stands for what it did, from now on, and so does every home, the bytes past its file's end too, with nothing
    -- unsynced;
    pub good_layout : g.keeps_model (disk_of store) → IsBadLayout (g.sector_count old) (g.content old) → ⊥
    pub good_journal : g.keeps_model (disk_of store) → IsBadJournal (g.sector_count old) (g.content old) → ⊥
    pub now : g.keeps_model (disk_of store) → LeavesNow g (disk_of store) (StandsAs (g.sector_count old) (g.content old))
    pub homes : g.keeps_model (disk_of store) → LeavesNow g (disk_of store) (KeepsHomesIn (kept_of store) (g.sector_count old) (g.content old))
    pub synced : g.keeps_model (disk_of store) → (k : ℕ) → g.unsynced (disk_of store) k → ⊥
    -- every commit may take as many pages as the image says;
    pub most : g.keeps_model (disk_of store) → always_free_in (kept_of store) ≡ most_pages (g.sector_count old) (g.content old)
    -- what a stop left is carried out, so that of layout 2 the next opening writes nothing;
    pub carried : g.keeps_model (disk_of store) → IsCarriedOut (kept_of store) (g.content old)
    pub emptied : g.keeps_model (disk_of store) → is_pool (g.content old) ≡ false → IsClosed (g.sector_count old) (g.content (disk_of store))
    -- no sector is asked for more often than that takes,
    pub once : g.keeps_model (disk_of store) → OpensOnce looks old store
    -- and the device did not fail.
    pub calm : g.failures (disk_of store) ≡ g.failures old

  -- that is, at the mark
  abbrev pub OpensFrom : D → Store D → Type 0
  OpensFrom = OpensWith (λ k. k ≡ 0)

  -- The device is given back with this fault:
  pub record RefusesToOpen (old : D) (fault : OpenFault) (new : D) : Type 0 where
    pub err_run : RunsOpening old new
    pub open err_run use *
    -- `Device` comes only where it failed, and any other only where it did not, and nothing was written;
    pub device : fault ≡ Device → g.failures old < g.failures new
    pub err_calm : (fault ≡ Device → ⊥) → g.failures new ≡ g.failures old
    pub unwritten : g.keeps_model new → (fault ≡ Device → ⊥) → Touches g Nothing old new
    -- nor where the image is bad, and it failed before that was seen;
    pub bad_unwritten : g.keeps_model new → IsBadLayout (g.sector_count old) (g.content old) ⊎ IsBadJournal (g.sector_count old) (g.content old)
        → Touches g Nothing old new
    -- `BadLayout` and `BadJournal` come only where it is so, a bad layout before a bad journal;
    pub bad_layout : g.keeps_model new → fault ≡ BadLayout → IsBadLayout (g.sector_count old) (g.content old)
    pub bad_journal : g.keeps_model new → fault ≡ BadJournal → IsBadJournal (g.sector_count old) (g.content old)
    pub layout_first : g.keeps_model new → fault ≡ BadJournal → IsBadLayout (g.sector_count old) (g.content old) → ⊥
    -- and `Memory` only where mark and kind are those of a pool's store.
    pub memory : g.keeps_model new → fault ≡ Memory → HasPoolHead (g.sector_count old) (g.content old)

  -- Stops in a row, of a store that stops, and stops again in each opening after the stop before: failure-atomic msync asks of recovery that it may be
  -- stopped and begun again (Park, Kelly and Shen, EuroSys 2013).
  module _ (sectors : ℕ) where
    -- An opening, from old to new, of a device of so many sectors that came up with this image, all of it synced:
    pub record Opens (image : Image) (old new : D) : Type 0 where
      pub size : g.sector_count old ≡ sectors
      pub held : g.content old ≡ image
      pub synced : (k : ℕ) → g.unsynced old k → ⊥
      -- every image of a stop during it stands for what this one stood for, and says of commits what this one said.
      pub stands : LeavesOnly g old new (StandsAs (g.sector_count old) (g.content old))
      pub most : LeavesOnly g old new (SaysMostOf (g.sector_count old) (g.content old))

    -- The last image is one that n stops in a row may leave: the first of them within an opening of the first image, and each other one within an opening
    -- of what the stop before it left.
    abbrev pub LeftInARow : ℕ → Image → Image → Type 0
    LeftInARow zero first last = last ≡ first
    LeftInARow (suc n) first last = (image : Image) × (old : D) × (new : D)
        × LeftInARow n first image × Opens image old new × g.left_since new (g.moment old) last
