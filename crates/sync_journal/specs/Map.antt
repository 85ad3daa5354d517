-- The journal map: a count, then so many home page numbers, each a little-endian number of four bytes.
-- The rest is zero when written, and is not looked at. The format is our own.
use Rattle.std.specs.Prelude.{ℕ, ⊤, zero, suc, ◌+◌, ◌-◌, ◌*◌, ◌<◌, ◌≤◌, ◌≡◌, ◌⊎◌, List, ◌++◌, length, take, drop, replicate, slice_index, Option, Some, None, if◌then◌else◌, ◌==◌}
use Rattle.std.specs.List.{flat_map}
use Rattle.sync_journal.specs.Layout.{page_limit}
use Rattle.byteorder.specs.Endian.{little_number, little_bytes}

-- how many pages a map names
abbrev pub map_count : List ℕ → ℕ
map_count map = little_number 4 map

-- the home of the page at place j
abbrev pub home_in : List ℕ → ℕ → ℕ
home_in map j = little_number 4 (drop (4 + 4 * j) map)

-- the map of these homes
abbrev pub map_bytes : List ℕ → List ℕ
map_bytes homes = (little_bytes 4 (length homes) ++ flat_map (little_bytes 4) homes) ++ replicate (4092 - 4 * length homes) 0

-- the last of the first n places that names home h
unfoldable pub place_among : (ℕ → ℕ) → ℕ → ℕ → Option ℕ
place_among homes h zero = None
place_among homes h (suc n) = if homes n == h then Some n else place_among homes h n

-- the place of home h in a list of homes
abbrev pub home_rank : List ℕ → ℕ → Option ℕ
home_rank homes h = place_among (λ j. slice_index homes j) h (length homes)

-- at most so many homes, each under the number of homes, none twice
pub record AreFewHomes (most count : ℕ) (homes : List ℕ) : Type 0 where
  pub few : length homes ≤ most
  pub inside : (j : ℕ) → j < length homes → slice_index homes j < count
  pub distinct : (i j : ℕ) → i < j → j < length homes → slice_index homes i ≡ slice_index homes j → ⊥

-- homes that one commit takes
abbrev pub AreHomes : ℕ → List ℕ → Type 0
AreHomes count homes = AreFewHomes page_limit count homes

-- the number at some place isn't under the number of homes
abbrev pub HasNoHome : ℕ → (ℕ → ℕ) → ℕ → Type 0
HasNoHome count names n = (j : ℕ) × (j < n) × (count ≤ names j)

-- some home stands at two places
abbrev pub HasHomeTwice : (ℕ → ℕ) → ℕ → Type 0
HasHomeTwice names n = (i : ℕ) × (j : ℕ) × (i < j) × (j < n) × (names i ≡ names j)

-- a map that no commit writes: more pages than it has room for, a home that the device hasn't, or a home twice
abbrev pub IsBadMap : ℕ → ℕ → List ℕ → Type 0
IsBadMap most count map = (most < map_count map) ⊎ (HasNoHome count (home_in map) (map_count map) ⊎ HasHomeTwice (home_in map) (map_count map))

-- no number, or one that is at most so large
abbrev pub IsWithinHomes : ℕ → Option ℕ → Type 0
IsWithinHomes most None = ⊤
IsWithinHomes most (Some count) = count ≤ most

-- The first so many of a list are the homes that a good map names.
pub record AreNamed (most limit : ℕ) (map homes : List ℕ) (count : ℕ) : Type 0 where
  pub counted : count ≡ map_count map
  pub each : (j : ℕ) → j < count → slice_index homes j ≡ home_in map j
  pub good : AreFewHomes most limit (take count homes)

-- what is read of a map: that it is bad, or the homes that it names
abbrev pub ReadsMap : ℕ → ℕ → List ℕ → List ℕ → Option ℕ → Type 0
ReadsMap most limit map homes None = IsBadMap most limit map
ReadsMap most limit map homes (Some count) = AreNamed most limit map homes count
