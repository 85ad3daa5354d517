-- What an image stands for: its home pages, but for those that an open journal holds. The format is our own.
use Rattle.std.specs.Prelude.{ℕ, ◌+◌, ◌<◌, ◌≡◌, ◌⊎◌, Bool, true, List, length, slice_index, Option, Some, None, if◌then◌else◌}
use Rattle.disk_model.specs.Sectors.{part_of, joined}
use Rattle.disk_model.specs.Stop.{Image}
use Rattle.sync_journal.specs.Layout.{Sizes, sizes_2, page_limit, body_at, home_at, home_count, body_sector, home_sector, IsGate, IsStaged, IsPageSector}
use Rattle.sync_journal.specs.Gate.{is_open}
use Rattle.sync_journal.specs.Map.{map_count, home_in, place_among, IsBadMap}

module _ (sizes : Sizes) where
  -- where home page h stands if the map names it at this place
  abbrev pub place_or_home_in : ℕ → Option ℕ → ℕ
  place_or_home_in h None = home_at sizes h
  place_or_home_in h (Some j) = body_at sizes j

  -- the journal map of an image
  abbrev pub map_in : Image → List ℕ
  map_in image = joined (λ i. image (sizes.map + i)) sizes.map_sectors

  -- where home page h stands under this gate and this map
  unfoldable pub standing_under : Bool → List ℕ → ℕ → ℕ
  standing_under gate map h = if gate then place_or_home_in h (place_among (home_in map) h (map_count map)) else home_at sizes h

-- The same of layout 2.
abbrev pub place_or_home : ℕ → Option ℕ → ℕ
place_or_home h place = place_or_home_in sizes_2 h place

abbrev pub map_of : Image → List ℕ
map_of image = map_in sizes_2 image

-- sector i of the page that stands for home page h
abbrev pub standing_single : Image → ℕ → ℕ → List ℕ
standing_single image h i = image (standing_under sizes_2 (is_open image) (map_of image) h + i)

-- an open gate before a map that no commit writes
pub record IsBadSingle (sectors : ℕ) (image : Image) : Type 0 where
  pub gate : is_open image ≡ true
  pub map : IsBadMap page_limit (home_count sectors) (map_of image)

-- The gate is open before a map that names these homes.
pub record IsOpenFor (homes : List ℕ) (image : Image) : Type 0 where
  pub gate : is_open image ≡ true
  pub count : map_count (map_of image) ≡ length homes
  pub each : (j : ℕ) → j < length homes → home_in (map_of image) j ≡ slice_index homes j

-- The first n of these homes hold what the body held.
abbrev pub AreCopied : List ℕ → ℕ → Image → Image → Type 0
AreCopied homes n old new = (j i : ℕ) → j < n → i < 8 → new (home_sector (slice_index homes j) + i) ≡ old (body_sector j + i)

-- The body holds the first n of these pages.
abbrev pub HoldsPages : ℕ → (ℕ → List ℕ) → Image → Type 0
HoldsPages n pages image = (j i : ℕ) → j < n → i < 8 → image (body_sector j + i) ≡ part_of (pages j) i

-- a sector of a home that the map of this image names
abbrev pub IsNamedHome : Image → ℕ → Type 0
IsNamedHome image k = (j : ℕ) × (j < map_count (map_of image)) × IsPageSector (home_sector (home_in (map_of image) j)) k

-- what a recovery of this image asks for: the gate and, where it is open, the map, the pages of the body
-- and the homes that the map names
abbrev pub IsAskedIn : Image → ℕ → Type 0
IsAskedIn image k = IsGate k ⊎ ((is_open image ≡ true) × (IsStaged (map_count (map_of image)) k ⊎ IsNamedHome image k))
