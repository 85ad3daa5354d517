-- What comes of a batch that is brought to a store.
use Rattle.std.specs.Prelude.{ℕ, ◌<◌, ◌≤◌, ◌≡◌, List, length, Option, Result, OnOk}
use Rattle.vm_types.specs.declared.file.FileInfo.{FileInfo}
use Rattle.vm_types.specs.declared.file.FilePage.{FilePage}
use Rattle.disk_model.specs.Moments.{LeavesOnly, LeavesNow}
use Rattle.disk_model.specs.declared.sector_disk.SectorDisk.{Ghosts}
use Rattle.file_store.specs.Commit.{Changes}
use Rattle.stores.specs.Commit.{ArePages}
use Rattle.stores.specs.Images.{StandsFor, StandsForEither}
use Rattle.stores.specs.Store.{disk_of, kept_of, files_of, free_of, always_free_in, IsReadyStore}
use Rattle.stores.specs.declared.store.Store.{Store}
use Rattle.batches.specs.Pages.{HasReadOnly}
use Rattle.batches.specs.declared.commits.BatchFault.{BatchFault}
use Rattle.batches.specs.declared.commits.BatchFault.TheVariants.{Device, BadPages, ReadOnly}

module _ {D : Type 0} (g : Ghosts D) where
  -- Pages are to become durable all at once:
  pub record CommitsBatch {T : Type 0} (old new : Store D) (list : List FilePage) (given : ℕ → List ℕ) (result : Result T BatchFault) : Type 0 where
    -- after Ok every image of a stop from now on stands for the files with these pages, the store may be committed to further, and the
    -- device did not fail,
    pub ok : g.keeps_model (disk_of new) → (files : ℕ → Option FileInfo) (before after : ℕ → ℕ → List ℕ) → LeavesNow g (disk_of old) (StandsFor (g.sector_count (disk_of old)) files before)
        → Changes files list given before after → OnOk result (LeavesNow g (disk_of new) (StandsFor (g.sector_count (disk_of old)) files after))
    pub ready : OnOk result (IsReadyStore g new)
    -- and to as many pages as every commit, where this one brought no more;
    pub room : OnOk result (length list ≤ always_free_in (kept_of old) → always_free_in (kept_of old) ≤ free_of new)
    pub always : always_free_in (kept_of new) ≡ always_free_in (kept_of old)
    pub calm : OnOk result (g.failures (disk_of new) ≡ g.failures (disk_of old))
    -- and whatever comes of it, at every moment of the call it stands for the files before or after,
    pub any_moment : g.keeps_model (disk_of new) → (files : ℕ → Option FileInfo) (before after : ℕ → ℕ → List ℕ) → LeavesNow g (disk_of old) (StandsFor (g.sector_count (disk_of old)) files before)
        → Changes files list given before after → LeavesOnly g (disk_of old) (disk_of new) (StandsForEither (g.sector_count (disk_of old)) files before after)
    -- the store has the files that it had, and its device as many sectors.
    pub files : files_of new ≡ files_of old
    pub size : g.sector_count (disk_of new) ≡ g.sector_count (disk_of old)
    pub kept : g.keeps_model (disk_of new) → g.keeps_model (disk_of old)

  -- A batch is refused:
  pub record RefusesBatch (old new : Store D) (list : List FilePage) (fault : BatchFault) : Type 0 where
    -- with `BadPages` and `ReadOnly` only where its pages are so, and then nothing is changed,
    pub bad_pages : fault ≡ BadPages → ArePages (files_of old) (free_of old) list → ⊥
    pub read_only : fault ≡ ReadOnly → ArePages (files_of old) (free_of old) list × HasReadOnly (files_of old) list
    pub unchanged : (fault ≡ Device → ⊥) → new ≡ old
    -- and with `Device` only where the device failed.
    pub cause : fault ≡ Device → g.failures (disk_of old) < g.failures (disk_of new)
