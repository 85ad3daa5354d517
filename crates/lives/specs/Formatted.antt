-- A new store, as an image that stands for files.
use Rattle.std.specs.Prelude.{ℕ, ◌*◌, ◌<◌, ◌≡◌, List, Option, Some, slice_get}
use Rattle.disk_model.specs.Stop.{Image}
use Rattle.disk_model.specs.declared.sector_disk.SectorDisk.{Ghosts}
use Rattle.file_store.specs.declared.sources.FileSource.{FileSource}
use Rattle.file_store.specs.Format.{page_given, files_given}
use Rattle.stores.specs.NewStores.{IsNewStore}
use Rattle.stores.specs.declared.new_stores.NewStore.{NewStore}
use Rattle.vm_types.specs.{Files.{Contents}, View.{Pages}}
use Rattle.machine.specs.Engine.{StandsForSome}
use Rattle.lives.specs.Lives.{Life, LeftInLives}

module _ {R : Type 0} (remaining : R → Option (List ℕ)) where
  -- each page of each file is the one that its source tells, where it tells its bytes
  abbrev pub AreSourcesBytes : List (FileSource R) → Pages → Type 0
  AreSourcesBytes sources pages = (f k : ℕ) (source : FileSource R) (page : List ℕ) → slice_get sources f ≡ Some source → 4096 * k < source.length
      → page_given remaining source k ≡ Some page → pages f k ≡ page

  -- these contents are the files of the sources, with their bytes
  pub record IsOfSources (sources : List (FileSource R)) (contents : Contents) : Type 0 where
    pub files : contents.files ≡ files_given sources
    pub pages : AreSourcesBytes sources contents.pages

  -- the image stands for the files of the sources, with their bytes
  abbrev pub StandsForSources : ℕ → List (FileSource R) → Image → Type 0
  StandsForSources sectors sources image = StandsForSome sectors (IsOfSources sources) image

  -- A new store of these sources was made on so many sectors, of any layout, and this image is what lives of it left.
  pub record IsFormattedStore {D E : Type 0} (g : Ghosts D) (h : Ghosts E) (sectors : ℕ) (sources : List (FileSource R)) (lives : List Life)
      (image : Image) : Type 0 where
    pub store : NewStore
    pub first : Image
    pub made : IsNewStore remaining store sectors sources first
    pub lived : LeftInLives g h sectors lives first image
