-- Plans that a caller is given.
use Rattle.std.specs.Prelude.{ℕ, ◌≤◌, ◌≡◌, true, false, not, List, Option, length}
use Rattle.vm_types.specs.declared.file.FileInfo.{FileInfo}
use Rattle.vm_types.specs.declared.file.FilePage.{FilePage}
use Rattle.disk_model.specs.Stop.{Image}
use Rattle.file_store.specs.Commit.{Changes}
use Rattle.pool_journal.specs.Pools.{pool_named}
use Rattle.stores.specs.Images.{is_pool, IsClosed, StandsFor, StandsForEither}
use Rattle.sync_plans.specs.declared.call.Call.{Call}
use Rattle.sync_plans.specs.Plans.{row, AreCalls, AreSources, image_after, IsLeftUnsynced, StopLeaves}
use Rattle.sync_plans.specs.Requests.{IsStore, KeepsOutside, AreWritable}

-- The first `used` calls, made of a device of so many sectors with these pages lent, are a plan for which there is so much room:
pub record IsPlan (sectors room : ℕ) (pages : ℕ → List ℕ) (calls : List Call) (used : ℕ) : Type 0 where
  -- they are no more than that,
  pub few : used ≤ room
  -- the device takes each,
  pub all : AreCalls sectors calls used
  -- each finds the bytes that it names,
  pub sources : AreSources pages calls used
  -- and after the last nothing is unsynced.
  pub synced : (n : ℕ) → IsLeftUnsynced calls used n → ⊥

-- A plan leaves the files of an image as they are:
pub record PlansKeeping (image : List (List ℕ)) (room : ℕ) (pages : ℕ → List ℕ) (calls : List Call) (rows : List (List ℕ)) (used : ℕ) : Type 0 where
  -- the image is one of a store,
  pub store : IsStore (length image) (row image)
  -- its device can make the calls,
  pub plan : IsPlan (length image) room pages calls used
  pub open plan use *
  -- every stop within them leaves the files as they stand,
  pub any_moment : (files : ℕ → Option FileInfo) (before : ℕ → ℕ → List ℕ) → StandsFor (length image) files before (row image)
      → (left : Image) → StopLeaves calls rows pages (row image) used left → StandsFor (length image) files before left
  -- and all of them together what lies outside of gate, journal, pool and homes as it was.
  pub outside : KeepsOutside (length image) (row image) (image_after calls rows pages (row image) used)

-- A plan opens an image:
pub record PlansOpening (image : List (List ℕ)) (room : ℕ) (pages : ℕ → List ℕ) (calls : List Call) (rows : List (List ℕ)) (used : ℕ) : Type 0 where
  pub keeps : PlansKeeping image room pages calls rows used
  pub open keeps use *
  -- where it has no pool nothing stands in the journal alone then, and where pages stand in slots of a pool the gate names the other map.
  pub closed : is_pool (row image) ≡ false → IsClosed (length image) (image_after calls rows pages (row image) used)
  pub anew : is_pool (row image) ≡ true → (IsClosed (length image) (row image) → ⊥)
      → pool_named (image_after calls rows pages (row image) used) ≡ not (pool_named (row image))

-- A plan brings all pages home:
pub record PlansTidying (image : List (List ℕ)) (room : ℕ) (pages : ℕ → List ℕ) (calls : List Call) (rows : List (List ℕ)) (used : ℕ) : Type 0 where
  pub keeps : PlansKeeping image room pages calls rows used
  pub open keeps use *
  -- none stands in the journal or in a slot alone then.
  pub closed : IsClosed (length image) (image_after calls rows pages (row image) used)

-- A plan makes pages durable all at once:
pub record PlansCommit (image : List (List ℕ)) (room : ℕ) (list : List FilePage) (pages : ℕ → List ℕ) (calls : List Call) (rows : List (List ℕ)) (used : ℕ) : Type 0 where
  -- the image is one of a store that may be brought these pages,
  pub store : IsStore (length image) (row image)
  pub writable : AreWritable (length image) (row image) list
  -- its device can make the calls,
  pub plan : IsPlan (length image) room pages calls used
  pub open plan use *
  -- every stop within them leaves the files before or after,
  pub any_moment : (files : ℕ → Option FileInfo) (before after : ℕ → ℕ → List ℕ) → StandsFor (length image) files before (row image) → Changes files list pages before after
      → (left : Image) → StopLeaves calls rows pages (row image) used left → StandsForEither (length image) files before after left
  -- and all of them together leave the files after, and what lies outside of gate, journal, pool and homes as it was.
  pub ok : (files : ℕ → Option FileInfo) (before after : ℕ → ℕ → List ℕ) → StandsFor (length image) files before (row image) → Changes files list pages before after
      → StandsFor (length image) files after (image_after calls rows pages (row image) used)
  pub outside : KeepsOutside (length image) (row image) (image_after calls rows pages (row image) used)
