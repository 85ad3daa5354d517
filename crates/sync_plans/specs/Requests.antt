-- What an image is to those who ask for a page or a commit.
use Rattle.std.specs.Prelude.{ℕ, ◌<◌, ◌≡◌, ◌⊎◌, true, false, not, List, Option}
use Rattle.vm_types.specs.declared.file.FileInfo.{FileInfo}
use Rattle.vm_types.specs.declared.file.FilePage.{FilePage}
use Rattle.disk_model.specs.declared.sector_disk.SectorDisk.{Ghosts}
use Rattle.disk_model.specs.Moments.{LeavesOnly, LeavesNow, Nothing, Touches}
use Rattle.disk_model.specs.Stop.{Image}
use Rattle.file_store.specs.Commit.{Changes}
use Rattle.pool_journal.specs.Pools.{pool_named}
use Rattle.pool_store.specs.Resume.{HasPoolHead}
use Rattle.stores.specs.Commit.{ArePages}
use Rattle.stores.specs.Images.{is_pool, file_info, capacity_pages, IsBadLayout, IsBadJournal, IsClosed, IsOutside, StandsFor, StandsForEither}
use Rattle.batches.specs.Pages.{HasReadOnly}
use Rattle.sync_plans.specs.declared.requests.Refusal.{Refusal}
use Rattle.sync_plans.specs.declared.requests.Refusal.TheVariants.{Device, BadLayout, BadJournal, BadPages, ReadOnly, Memory}

-- the image has the layout of a store
abbrev pub HasLayout : ℕ → Image → Type 0
HasLayout sectors image = IsBadLayout sectors image → ⊥

-- the image is one of a store
pub record IsStore (sectors : ℕ) (image : Image) : Type 0 where
  pub layout : IsBadLayout sectors image → ⊥
  pub journal : IsBadJournal sectors image → ⊥

-- the image is one of a store whose journal no commit wrote
pub record HasBadJournal (sectors : ℕ) (image : Image) : Type 0 where
  pub layout : IsBadLayout sectors image → ⊥
  pub journal : IsBadJournal sectors image

-- what lies outside of gate, journal, pool and homes is as it was
abbrev pub KeepsOutside : ℕ → Image → Image → Type 0
KeepsOutside sectors old new = (k : ℕ) → IsOutside sectors old k → new k ≡ old k

-- a commit may bring these pages
pub record AreWritable (sectors : ℕ) (image : Image) (list : List FilePage) : Type 0 where
  pub pages : ArePages (file_info sectors image) (capacity_pages sectors image) list
  pub written : HasReadOnly (file_info sectors image) list → ⊥

-- it may not, as one of them is a page of a file that may only be read
pub record AreReadOnly (sectors : ℕ) (image : Image) (list : List FilePage) : Type 0 where
  pub pages : ArePages (file_info sectors image) (capacity_pages sectors image) list
  pub read_only : HasReadOnly (file_info sectors image) list

-- What is asked of an image is refused:
pub record RefusesImage (sectors : ℕ) (image : Image) (bad denied : Type 0) (refusal : Refusal) : Type 0 where
  -- with `BadLayout` only where the image has no layout of a store,
  pub layout : refusal ≡ BadLayout → IsBadLayout sectors image
  -- with `BadJournal` only where it has one, and a journal that no commit wrote,
  pub journal : refusal ≡ BadJournal → HasBadJournal sectors image
  -- with `Memory` only where mark and kind are those of a store with a pool,
  pub memory : refusal ≡ Memory → HasPoolHead sectors image
  -- and with `BadPages` and `ReadOnly` only for pages that are so.
  pub pages : refusal ≡ BadPages → bad
  pub read_only : refusal ≡ ReadOnly → denied

module _ {D : Type 0} (g : Ghosts D) where
  -- What is asked of the store on a device is refused:
  pub record RefusesOn (old new : D) (bad denied : Type 0) (refusal : Refusal) : Type 0 where
    -- with `Device` only where the device failed,
    pub cause : refusal ≡ Device → g.failures old < g.failures new
    -- with `BadLayout` only where its image has no layout of a store,
    pub layout : g.keeps_model new → refusal ≡ BadLayout → IsBadLayout (g.sector_count old) (g.content old)
    -- with `BadJournal` only where it has one, and a journal that no commit wrote,
    pub journal : g.keeps_model new → refusal ≡ BadJournal → HasBadJournal (g.sector_count old) (g.content old)
    -- with `Memory` only where mark and kind are those of a store with a pool,
    pub memory : g.keeps_model new → refusal ≡ Memory → HasPoolHead (g.sector_count old) (g.content old)
    -- and with `BadPages` and `ReadOnly` only for pages that are so.
    pub pages : refusal ≡ BadPages → bad
    pub read_only : refusal ≡ ReadOnly → denied

  -- Whatever comes of what is asked of the store on a device,
  pub record StaysStore (old new : D) : Type 0 where
    -- the device keeps its size;
    pub size : g.sector_count new ≡ g.sector_count old
    -- where its image is one of a store, every image of a stop at any moment of the call has the layout of a store,
    pub layout_moment : g.keeps_model new → IsStore (g.sector_count old) (g.content old) → LeavesOnly g old new (HasLayout (g.sector_count old))
    -- and where it is bad, nothing is written.
    pub bad_unwritten : g.keeps_model new → IsBadLayout (g.sector_count old) (g.content old) ⊎ IsBadJournal (g.sector_count old) (g.content old)
        → Touches g Nothing old new

  -- The store on a device is opened, and left:
  pub record OpensStore (old new : D) : Type 0 where
    -- its image was one of a store,
    pub store : IsStore (g.sector_count old) (g.content old)
    -- where it has no pool nothing stands in the journal alone any more, and where pages stand in slots of a pool the gate names the other map,
    pub closed : is_pool (g.content old) ≡ false → IsClosed (g.sector_count old) (g.content new)
    pub anew : is_pool (g.content old) ≡ true → (IsClosed (g.sector_count old) (g.content old) → ⊥) → pool_named (g.content new) ≡ not (pool_named (g.content old))
    -- nothing is unsynced, and what lies outside of gate, journal, pool and homes is as it was.
    pub synced : (k : ℕ) → g.unsynced new k → ⊥
    pub outside : KeepsOutside (g.sector_count old) (g.content old) (g.content new)

  -- The store on a device is tidied, and left:
  pub record TidiesOn (old new : D) : Type 0 where
    -- its image was one of a store,
    pub store : IsStore (g.sector_count old) (g.content old)
    -- no page stands in the journal or in a slot alone any more,
    pub closed : IsClosed (g.sector_count old) (g.content new)
    -- nothing is unsynced, and what lies outside of gate, journal, pool and homes is as it was.
    pub synced : (k : ℕ) → g.unsynced new k → ⊥
    pub outside : KeepsOutside (g.sector_count old) (g.content old) (g.content new)

  -- These pages become durable all at once:
  pub record CommitsStore (old new : D) (list : List FilePage) (given : ℕ → List ℕ) : Type 0 where
    -- the image was one of a store that may be brought these pages,
    pub store : IsStore (g.sector_count old) (g.content old)
    pub writable : AreWritable (g.sector_count old) (g.content old) list
    -- every image of a stop from now on stands for the files after, and nothing is unsynced,
    pub ok : (files : ℕ → Option FileInfo) (before after : ℕ → ℕ → List ℕ) → LeavesNow g old (StandsFor (g.sector_count old) files before) → Changes files list given before after
        → LeavesNow g new (StandsFor (g.sector_count old) files after)
    pub synced : (k : ℕ) → g.unsynced new k → ⊥
    -- every image of a stop at any moment of the call stands for the files before or after,
    pub any_moment : (files : ℕ → Option FileInfo) (before after : ℕ → ℕ → List ℕ) → LeavesNow g old (StandsFor (g.sector_count old) files before) → Changes files list given before after
        → LeavesOnly g old new (StandsForEither (g.sector_count old) files before after)
    -- and what lies outside of gate, journal, pool and homes is as it was.
    pub outside : KeepsOutside (g.sector_count old) (g.content old) (g.content new)
