-- New stores, of any layout.
use Rattle.std.specs.Prelude.{ℕ, ◌+◌, ◌≡◌, List, Option, Result}
use Rattle.disk_model.specs.Stop.{Image}
use Rattle.disk_model.specs.declared.sector_disk.SectorDisk.{Ghosts}
use Rattle.sync_journal.specs.Layout.{home_sector}
use Rattle.pool_journal.specs.Pools.{pool_home}
use Rattle.directories.specs.Kinds.{IsMapSize}
use Rattle.file_store.specs.{Format.{IsStoreOf, IsStoreIfMarked}, Formatted.{FormatsStore}, Layout.{pool_mark}}
use Rattle.file_store.specs.declared.{faults.FormatFault.{FormatFault}, sources.FileSource.{FileSource}}
use Rattle.pool_store.specs.{Format.{IsPoolStoreOf, IsPoolOrNone, new_pages}, Formatted.{FormatsPool}}
use Rattle.stores.specs.declared.new_stores.NewStore.{NewStore}
use Rattle.stores.specs.declared.new_stores.NewStore.TheVariants.{Journal, Pool}

-- the maps of a new pool have 1 to 2,048 blocks
abbrev pub IsSizedNew : NewStore → Type 0
IsSizedNew Journal = Unit {0}
IsSizedNew (Pool blocks) = IsMapSize blocks

-- how many sectors such a store of so many pages has at least
abbrev pub store_sectors : NewStore → ℕ → ℕ
store_sectors Journal pages = home_sector pages
store_sectors (Pool blocks) pages = pool_home blocks (new_pages + pages)

module _ {R : Type 0} (remaining : R → Option (List ℕ)) where
  -- the image is such a store of the sources' files
  abbrev pub IsNewStore : NewStore → ℕ → List (FileSource R) → Image → Type 0
  IsNewStore Journal sectors sources image = IsStoreOf remaining sectors sources image
  IsNewStore (Pool blocks) sectors sources image = (image 0 ≡ pool_mark) × IsPoolStoreOf blocks remaining sectors sources image

  -- A stop may leave the image while the store is made: with its mark it is that store.
  abbrev pub IsNewOrNone : NewStore → ℕ → List (FileSource R) → Image → Type 0
  IsNewOrNone Journal sectors sources image = IsStoreIfMarked remaining sectors sources image
  IsNewOrNone (Pool blocks) sectors sources image = IsPoolOrNone blocks remaining sectors sources image

module _ {D : Type 0} (g : Ghosts D) {R T : Type 0} where
  -- such a store is made of the sources' files, as the crate of its layout says it
  abbrev pub FormatsNew : NewStore → (R → Option (List ℕ)) → List (FileSource R) → D → D → Result T FormatFault → Type 0
  FormatsNew Journal remaining sources old new result = FormatsStore g remaining sources old new result
  FormatsNew (Pool blocks) remaining sources old new result = FormatsPool g blocks remaining sources old new result
