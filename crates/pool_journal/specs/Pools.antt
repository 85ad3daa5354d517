-- A pool: layout 4. Two maps, of which a gate names one, may each name slots of both bodies, so a page that was committed stays in its slot over any
-- number of later commits. The format is our own. What it has to keep is failure-atomic msync (Park, Kelly and Shen, "Failure-Atomic msync()", EuroSys 2013).
use Rattle.std.specs.Prelude.{ℕ, zero, suc, ◌+◌, ◌-◌, ◌*◌, ◌/◌, ◌%◌, ◌<◌, ◌≤◌, ◌≡◌, ◌⊎◌, Bool, true, false, not, List, drop, Option, Some, None, min, nat_lt, if◌then◌else◌, ◌==◌}
use Rattle.byteorder.specs.Endian.{little_number}
use Rattle.disk_model.specs.{Sectors.{joined}, Stop.{Image, NamesOnce}}
use Rattle.disk_model.specs.declared.sector_disk.SectorDisk.{Ghosts}
use Rattle.sync_journal.specs.{Gate.{is_open_sector}, Layout.{IsPageSector, home_limit}, Layouts.{Layout}}

-- the gate, alone in its block of 4,096 bytes: the bytes `GATEOPEN` 64 times name the second map, any others the first
abbrev pub pool_gate : ℕ
pool_gate = 8

-- the most blocks of a map
abbrev pub most_blocks : ℕ
most_blocks = 2048

-- With maps of m blocks a body has 504 m slots: the first sector of a map, of a slot, which is named by its body and its place there, and of a home page
abbrev pub pool_start : ℕ → Bool → ℕ
pool_start m false = 16
pool_start m true = 16 + 4040 * m

abbrev pub pool_slot : ℕ → Bool → ℕ → ℕ
pool_slot m body r = pool_start m body + 8 * m + 8 * r

abbrev pub pool_home : ℕ → ℕ → ℕ
pool_home m h = 16 + 8080 * m + 8 * h

-- how many home pages a device of so many sectors has
abbrev pub pool_home_count : ℕ → ℕ → ℕ
pool_home_count m sectors = min ((sectors - pool_home m 0) / 8) home_limit

-- block q of a map, which stand the last one first
abbrev pub pool_block : ℕ → Bool → Image → ℕ → List ℕ
pool_block m second image q = joined (λ i. image (pool_start m second + 8 * (m - 1 - q) + i)) 8

-- how many blocks of it count
abbrev pub pool_counted : ℕ → Bool → Image → ℕ
pool_counted m second image = min (little_number 4 (pool_block m second image 0)) m

-- the numbers of a block for the two bodies, behind a head of 16
abbrev pub block_number : Bool → ℕ → List ℕ → ℕ
block_number false i block = little_number 4 (drop (64 + 4 * i) block)
block_number true i block = little_number 4 (drop (2080 + 4 * i) block)

-- of a number past the last of n homes nothing is looked at
abbrev pub within : ℕ → ℕ → ℕ
within n number = if nat_lt n number then 0 else number

-- what a map gives the slot at place r of a body to: 0 is no home, and h + 1 home h
unfoldable pub pool_entry : ℕ → ℕ → Bool → Image → Bool → ℕ → ℕ
pool_entry m n second image body r = if nat_lt (r / 504) (pool_counted m second image) then within n (block_number body (r % 504) (pool_block m second image (r / 504))) else 0

abbrev pub some_or : Option ℕ → Option ℕ → Option ℕ
some_or None other = other
some_or (Some n) other = Some n

-- the first of n places that names a number
unfoldable pub first_among : (ℕ → ℕ) → ℕ → ℕ → Option ℕ
first_among names x zero = None
first_among names x (suc n) = some_or (first_among names x n) (if names n == x then Some n else None)

-- the first slot that is given to home h, by its body and its place there
abbrev pub first_slot : Option ℕ → Option ℕ → Option (Bool × ℕ)
first_slot (Some r) other = Some (false, r)
first_slot None (Some r) = Some (true, r)
first_slot None None = None

abbrev pub slot_by : ℕ → (Bool → ℕ → ℕ) → ℕ → Option (Bool × ℕ)
slot_by m entries h = first_slot (first_among (entries false) (suc h) (504 * m)) (first_among (entries true) (suc h) (504 * m))

abbrev pub pool_stands : ℕ → ℕ → Option (Bool × ℕ) → ℕ
pool_stands m h None = pool_home m h
pool_stands m h (Some slot) = pool_slot m slot.0 slot.1

-- sector i of the page that stands for home h under a map, and under that which the gate names
abbrev pub pool_under : ℕ → ℕ → Bool → Image → ℕ → ℕ → List ℕ
pool_under m n second image h i = image (pool_stands m h (slot_by m (pool_entry m n second image) h) + i)

abbrev pub pool_named : Image → Bool
pool_named image = is_open_sector (image pool_gate)

abbrev pub pool_standing : ℕ → ℕ → Image → ℕ → ℕ → List ℕ
pool_standing m n image h i = pool_under m n (pool_named image) image h i

-- a sector of a map
abbrev pub IsPoolMap : ℕ → Bool → ℕ → Type 0
IsPoolMap m second k = (pool_start m second ≤ k) × (k < pool_start m second + 8 * m)

-- Loose, where a map gives slots so: sectors of a slot that it gives to no home, of a home that it gives a slot to, and of the other map.
abbrev pub IsLooseSlot : ℕ → (Bool → ℕ → ℕ) → ℕ → Type 0
IsLooseSlot m entries k = (body : Bool) × (r : ℕ) × (r < 504 * m) × (entries body r ≡ 0) × IsPageSector (pool_slot m body r) k

abbrev pub IsLooseHome : ℕ → (Bool → ℕ → ℕ) → ℕ → Type 0
IsLooseHome m entries k = (h : ℕ) × (slot : Bool × ℕ) × (slot_by m entries h ≡ Some slot) × IsPageSector (pool_home m h) k

abbrev pub IsLoose : ℕ → Bool → (Bool → ℕ → ℕ) → ℕ → Type 0
IsLoose m second entries k = IsPoolMap m (not second) k ⊎ (IsLooseSlot m entries k ⊎ IsLooseHome m entries k)

-- Between two commits: the gate names a map, which gives the slots so, and nothing is unsynced but what is loose.
pub record IsPoolRest {D : Type 0} (g : Ghosts D) (m n : ℕ) (second : Bool) (entries : Bool → ℕ → ℕ) (d : D) : Type 0 where
  pub gate : pool_named (g.content d) ≡ second
  pub map : (body : Bool) (r : ℕ) → r < 504 * m → pool_entry m n second (g.content d) body r ≡ entries body r
  pub synced : (k : ℕ) → g.unsynced d k → IsLoose m second entries k

-- no home has two slots
abbrev pub IsSingle : ℕ → (Bool → ℕ → ℕ) → Type 0
IsSingle m entries = (a b : Bool) (r s : ℕ) → r < 504 * m → s < 504 * m → entries a r ≡ entries b s → (entries a r ≡ 0) ⊎ ((a ≡ b) × (r ≡ s))

-- a sector of a slot
abbrev pub IsPoolSlot : ℕ → ℕ → Type 0
IsPoolSlot m k = (body : Bool) × (r : ℕ) × (r < 504 * m) × IsPageSector (pool_slot m body r) k

-- what a commit asks for: the gate, what is loose, and slots that are copied home
abbrev pub IsPoolUsed : ℕ → Bool → (Bool → ℕ → ℕ) → ℕ → Type 0
IsPoolUsed m second entries k = (k ≡ pool_gate) ⊎ (IsLoose m second entries k ⊎ IsPoolSlot m k)

-- Layout 4 with maps of m blocks on a device of n homes, of which the gate names a map that gives the slots so. No map is bad.
abbrev pub pool : ℕ → ℕ → Layout (Bool × (Bool → ℕ → ℕ))
pool m n = record {
  standing = pool_standing m n;
  IsBad = λ sectors image. ⊥;
  IsClosed = λ image. (body : Bool) (r : ℕ) → r < 504 * m → pool_entry m n (pool_named image) image body r ≡ 0;
  IsOutside = λ image sectors k. (k < pool_gate) ⊎ (pool_home m n ≤ k);
  IsRecovered = λ image sectors k. (k ≡ pool_gate) ⊎ IsPoolMap m (not (pool_named image)) k;
  IsAsked = λ image k. (k ≡ pool_gate) ⊎ (IsPoolMap m false k ⊎ IsPoolMap m true k);
  IsRest = λ g named d. IsPoolRest g m n named.0 named.1 d;
  IsCommitted = λ named k. (k ≡ pool_gate) ⊎ IsLoose m named.0 named.1 k;
  AsksOnce = λ g named homes old new. IsSingle m named.1 → NamesOnce (IsPoolUsed m named.0 named.1) (g.asked old) (g.asked new);
  stands_at = λ named h. pool_stands m h (slot_by m named.1 h);
}
