-- A layout as a value. What a store promises is said over it.
use Rattle.std.specs.Prelude.{ℕ, ◌<◌, ◌≡◌, ◌⊎◌, List}
use Rattle.disk_model.specs.Stop.{Image}
use Rattle.disk_model.specs.Moments.{LeavesNow, LeavesOnly}
use Rattle.disk_model.specs.declared.sector_disk.SectorDisk.{Ghosts}

-- A layout of stores says of an image
pub record Layout (S : Type 0) : Type 1 where
  -- what is sector i of the page that stands for home h,
  pub standing : Image → ℕ → ℕ → List ℕ
  -- that its journal is bad: one that no commit writes on a device of so many sectors,
  pub IsBad : ℕ → Image → Type 0
  -- that it is closed: no page stands in a journal alone,
  pub IsClosed : Image → Type 0
  -- which sectors lie outside its gate, journals and homes,
  pub IsOutside : Image → ℕ → ℕ → Type 0
  -- which ones a recovery writes,
  pub IsRecovered : Image → ℕ → ℕ → Type 0
  -- and which ones it asks for;
  pub IsAsked : Image → ℕ → Type 0
  -- and of a journal, which between two commits is in a state of S, that a device is at rest under it,
  pub IsRest : {D : Type 0} → Ghosts D → S → D → Type 0
  -- which sectors a commit writes then,
  pub IsCommitted : S → ℕ → Type 0
  -- that one to these homes asks for no sector more often than it takes,
  pub AsksOnce : {D : Type 0} → Ghosts D → S → List ℕ → D → D → Type 0
  -- and at which sector the page of a home begins.
  pub stands_at : S → ℕ → ℕ

module _ {S : Type 0} (layout : Layout S) where
  -- The image stands for these pages, of eight sectors each.
  pub record StandsForPages (pages : ℕ → ℕ → List ℕ) (image : Image) : Type 0 where
    pub each : (h i : ℕ) → i < 8 → layout.standing image h i ≡ pages h i

  abbrev pub StandsForEitherPages : (ℕ → ℕ → List ℕ) → (ℕ → ℕ → List ℕ) → Image → Type 0
  StandsForEitherPages before after image = StandsForPages before image ⊎ StandsForPages after image

  -- An image that a stop may leave where the device held this content: what it stands for has `Stands`, its journal is
  -- bad only where that of the content was, and nothing outside the gate, the journals and the homes is changed.
  pub record IsKept (sectors : ℕ) (content : Image) (Stands : Image → Type 0) (image : Image) : Type 0 where
    pub stands : Stands image
    pub journal : layout.IsBad sectors image → layout.IsBad sectors content
    pub outside : (k : ℕ) → layout.IsOutside content sectors k → image k ≡ content k

  -- An image that a stop may leave where the device held the old one, and that stands for the same home pages.
  abbrev pub HomesStandAs : ℕ → Image → Image → Type 0
  HomesStandAs sectors old image = IsKept sectors old (StandsForPages (layout.standing old)) image

  module _ {D : Type 0} (g : Ghosts D) where
    -- Every image that a stop at some moment from old to new might have left stands for the home pages of old.
    abbrev pub KeepsHomes : D → D → Type 0
    KeepsHomes old new = LeavesOnly g old new (HomesStandAs (g.sector_count old) (g.content old))

    -- The device is at rest in this state, and stands for these pages now and after every stop. Outside the gate, the journals and
    -- the homes it holds this content.
    pub record IsSettled (sectors : ℕ) (content : Image) (state : S) (new : D) (pages : ℕ → ℕ → List ℕ) : Type 0 where
      pub rest : layout.IsRest g state new
      pub stands : StandsForPages pages (g.content new)
      pub outside : (k : ℕ) → layout.IsOutside content sectors k → g.content new k ≡ content k
      pub left : LeavesNow g new (IsKept sectors content (StandsForPages pages))
