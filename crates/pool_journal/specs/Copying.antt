-- Pages copied from slots to their homes.
use Rattle.std.specs.Prelude.{ℕ, suc, ◌+◌, ◌*◌, ◌<◌, ◌≤◌, ◌≡◌, ◌⊎◌, Bool, List, length, get_or, Some, Result, OnOk, IsErr}
use Rattle.disk_model.specs.{Moments.{AsksOnly}, Stop.{Image, NamesOnce}}
use Rattle.disk_model.specs.declared.sector_disk.DiskFault.{DiskFault}
use Rattle.disk_model.specs.declared.sector_disk.SectorDisk.{Ghosts}
use Rattle.pool_journal.specs.Pools.{pool_slot, pool_home, first_among, slot_by}
use Rattle.sync_journal.specs.{Layout.{IsPageSector}, Runs.{RunsOnDevice}}

-- a sector of the home that a slot is given to by this number
abbrev pub IsHomeOf : ℕ → ℕ → ℕ → Type 0
IsHomeOf m number k = (h : ℕ) × (number ≡ suc h) × IsPageSector (pool_home m h) k

-- what is copied from and to then
abbrev pub IsCopyOf : ℕ → Bool → ℕ → ℕ → ℕ → Type 0
IsCopyOf m body r number k = (h : ℕ) × (number ≡ suc h) × (IsPageSector (pool_slot m body r) k ⊎ IsPageSector (pool_home m h) k)

-- and the home holds what the slot held
abbrev pub HoldsCopy : ℕ → Bool → ℕ → ℕ → Image → Image → Type 0
HoldsCopy m body r number old new = (h i : ℕ) → number ≡ suc h → i < 8 → new (pool_home m h + i) ≡ old (pool_slot m body r + i)

-- Of a body whose slots are given to these numbers: a sector of the home of one of them
abbrev pub IsBodyHome : ℕ → List ℕ → ℕ → Type 0
IsBodyHome m numbers k = (r : ℕ) × (r < length numbers) × IsHomeOf m (get_or numbers r 0) k

-- what the slots from a place on are copied from and to
abbrev pub IsBodyCopy : ℕ → Bool → List ℕ → ℕ → ℕ → Type 0
IsBodyCopy m body numbers from k = (r : ℕ) × (from ≤ r) × (r < length numbers) × IsCopyOf m body r (get_or numbers r 0) k

-- each home holds what its first slot held
abbrev pub HoldsBody : ℕ → Bool → List ℕ → Image → Image → Type 0
HoldsBody m body numbers old new = (h r i : ℕ) → first_among (λ s. get_or numbers s 0) (suc h) (length numbers) ≡ Some r → i < 8 → new (pool_home m h + i) ≡ old (pool_slot m body r + i)

-- and no home has two slots
abbrev pub IsSingleBody : List ℕ → Type 0
IsSingleBody numbers = (r s : ℕ) → r < length numbers → s < length numbers → get_or numbers r 0 ≡ get_or numbers s 0 → (get_or numbers r 0 ≡ 0) ⊎ (r ≡ s)

-- Of both bodies: what is copied from and to
abbrev pub IsCopiedHome : ℕ → (Bool → ℕ → ℕ) → ℕ → Type 0
IsCopiedHome m entries k = (body : Bool) × (r : ℕ) × (r < 504 * m) × IsCopyOf m body r (entries body r) k

-- and each home that has a slot holds what its first slot held
abbrev pub HoldsHomes : ℕ → (Bool → ℕ → ℕ) → Image → Image → Type 0
HoldsHomes m entries old new = (h i : ℕ) (slot : Bool × ℕ) → slot_by m entries h ≡ Some slot → i < 8 → new (pool_home m h + i) ≡ old (pool_slot m slot.0 slot.1 + i)

-- Pages are copied home:
pub record CopiesHome {D : Type 0} (g : Ghosts D) (Written Asked : ℕ → Type 0) (Single After : Type 0) (old new : D) (result : Result (Unit {0}) DiskFault) : Type 0 where
  -- what was to be done is done,
  pub done : g.keeps_model new → OnOk result After
  -- no other sector is written,
  pub run : RunsOnDevice g Written old new
  pub open run use *
  -- nor any asked for but those that it takes, and where no home has two slots none twice;
  pub asks : AsksOnly g Asked old new
  pub once : Single → NamesOnce Asked (g.asked old) (g.asked new)
  -- or the device failed.
  pub failed : IsErr result → g.failures old < g.failures new
  pub calm : OnOk result (g.failures new ≡ g.failures old)
