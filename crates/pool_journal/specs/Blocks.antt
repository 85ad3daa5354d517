-- A map on the device, in blocks, and what is read and written of it.
use Rattle.std.specs.Prelude.{ℕ, ◌+◌, ◌-◌, ◌*◌, ◌≤◌, ◌<◌, ◌≡◌, ◌⊎◌, Bool, List, Result, OnOk}
use Rattle.byteorder.specs.Endian.{little_number}
use Rattle.disk_model.specs.Stop.{NamesOnce}
use Rattle.disk_model.specs.declared.sector_disk.DiskFault.{DiskFault}
use Rattle.disk_model.specs.declared.sector_disk.SectorDisk.{Ghosts}
use Rattle.pool_journal.specs.Maps.{entries_of, IsMapOf}
use Rattle.pool_journal.specs.Pools.{pool_start, pool_block, pool_counted, block_number, within, pool_entry}
use Rattle.pool_journal.specs.declared.map.SlotMap.{SlotMap}
use Rattle.pool_journal.specs.declared.sizes.PoolSizes.{PoolSizes}
use Rattle.sync_journal.specs.{Layout.{IsPageSector}, Steps.{ReadsOnly}}

-- a sector of a map's blocks that count, where so many do, but of the first one, which lies behind the others
abbrev pub IsRestOfMap : ℕ → Bool → ℕ → ℕ → Type 0
IsRestOfMap m second counted k = (pool_start m second + 8 * (m - counted) ≤ k) × (k + 8 < pool_start m second + 8 * m)

-- a sector of the first one, or of the others that count
abbrev pub IsCountedMap : ℕ → Bool → ℕ → ℕ → Type 0
IsCountedMap m second counted k = ((pool_start m second + 8 * (m - counted) ≤ k) ⊎ (pool_start m second + 8 * (m - 1) ≤ k)) × (k < pool_start m second + 8 * m)

-- A map is read:
pub record ReadsMap {D : Type 0} (g : Ghosts D) (sizes : PoolSizes) (second : Bool) (old new : D) (map : SlotMap) (result : Result (Unit {0}) DiskFault) : Type 0 where
  -- it gives the slots as it does on the device,
  pub entries : g.keeps_model new → OnOk result ((body : Bool) (r : ℕ) → r < 504 * sizes.blocks → entries_of map body r ≡ pool_entry sizes.blocks sizes.homes second (g.content old) body r)
  pub fits : IsMapOf sizes.blocks map
  -- to homes of the device alone,
  pub homes : (body : Bool) (r : ℕ) → entries_of map body r ≤ sizes.homes
  -- and the device is read alone, the first block and those that count, each sector once at most.
  pub reads : ReadsOnly g old new result
  pub open reads use *
  pub once : g.keeps_model new → NamesOnce (IsCountedMap sizes.blocks second (pool_counted sizes.blocks second (g.content old))) (g.asked old) (g.asked new)

-- The blocks that count behind the first one are read into an empty map:
pub record ReadsRest {D : Type 0} (g : Ghosts D) (sizes : PoolSizes) (second : Bool) (counted : ℕ) (old new : D) (map : SlotMap) (result : Result (Unit {0}) DiskFault) : Type 0 where
  -- it gives the slots of these blocks as they do,
  pub entries : g.keeps_model new → OnOk result ((body : Bool) (q i : ℕ) → 1 ≤ q → q < counted → i < 504 → entries_of map body (504 * q + i) ≡ within sizes.homes (block_number body i (pool_block sizes.blocks second (g.content old) q)))
  -- and no other slot,
  pub rest : (body : Bool) (r : ℕ) → (r < 504) ⊎ (504 * counted ≤ r) → entries_of map body r ≡ 0
  pub fits : IsMapOf sizes.blocks map
  -- to homes of the device alone,
  pub homes : (body : Bool) (r : ℕ) → entries_of map body r ≤ sizes.homes
  -- and the device is read alone, each sector of these blocks once at most.
  pub reads : ReadsOnly g old new result
  pub open reads use *
  pub once : NamesOnce (IsRestOfMap sizes.blocks second counted) (g.asked old) (g.asked new)

-- The numbers of a block are taken into a map:
pub record TakesBlock (q : ℕ) (block : List ℕ) (homes : ℕ) (old new : SlotMap) : Type 0 where
  -- each but those of homes past the last one,
  pub taken : (body : Bool) (i : ℕ) → i < 504 → entries_of new body (504 * q + i) ≡ within homes (block_number body i block)
  -- and of other slots the map says what it did.
  pub others : (body : Bool) (r : ℕ) → (r < 504 * q) ⊎ (504 * q + 504 ≤ r) → entries_of new body r ≡ entries_of old body r
  pub size : (blocks : ℕ) → IsMapOf blocks old → IsMapOf blocks new

-- a slot of block q or of one after it is given to a home
abbrev pub IsGivenFrom : ℕ → (Bool → ℕ → ℕ) → ℕ → Type 0
IsGivenFrom m entries q = (body : Bool) × (r : ℕ) × (504 * q ≤ r) × (r < 504 * m) × (entries body r ≡ 0 → ⊥)

-- So many blocks count:
pub record HasCount (blocks : ℕ) (entries : Bool → ℕ → ℕ) (counted : ℕ) : Type 0 where
  pub some : 1 ≤ counted
  pub most : counted ≤ blocks
  -- after them no slot is given to a home,
  pub rest : (body : Bool) (r : ℕ) → 504 * counted ≤ r → r < 504 * blocks → entries body r ≡ 0
  -- and they are no more than that takes.
  pub least : (counted ≡ 1) ⊎ IsGivenFrom blocks entries (counted - 1)

-- a sector of the blocks that a map takes which gives the slots so: of its first one, or of another with which or behind which a slot is given to a home
abbrev pub IsNotedMap : ℕ → Bool → (Bool → ℕ → ℕ) → ℕ → Type 0
IsNotedMap m second entries k = (q : ℕ) × (q < m) × IsPageSector (pool_start m second + 8 * (m - 1 - q)) k × ((q ≡ 0) ⊎ IsGivenFrom m entries q)

-- a block says how many count, and what its slots are given to
pub record NotesBlock (q counted : ℕ) (entries : Bool → ℕ → ℕ) (block : List ℕ) : Type 0 where
  pub count : little_number 4 block ≡ counted
  pub numbers : (body : Bool) (i : ℕ) → i < 504 → block_number body i block ≡ entries body (504 * q + i)
