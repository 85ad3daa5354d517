-- Homes in a row made zeros, with each slot that is given to one of them.
use Rattle.std.specs.Prelude.{ℕ, suc, ◌+◌, ◌*◌, ◌<◌, ◌≤◌, ◌≡◌, ◌⊎◌, Bool, replicate}
use Rattle.disk_model.specs.{Sectors.{sector_bytes}, Stop.{Image}}
use Rattle.pool_journal.specs.Pools.{pool_home, pool_slot, pool_stands, slot_by}
use Rattle.sync_journal.specs.Layout.{IsPageSector}

-- a sector of a slot that a map gives to home h
abbrev pub IsSlotSectorOf : ℕ → (Bool → ℕ → ℕ) → ℕ → ℕ → Type 0
IsSlotSectorOf m entries h k = (body : Bool) × (r : ℕ) × (r < 504 * m) × (entries body r ≡ suc h) × IsPageSector (pool_slot m body r) k

-- a sector of one of so many homes from the first on, or of a slot that is given to one of them
abbrev pub IsBlanked : ℕ → (Bool → ℕ → ℕ) → ℕ → ℕ → ℕ → Type 0
IsBlanked m entries first count k = (h : ℕ) × (first ≤ h) × (h < first + count) × (IsPageSector (pool_home m h) k ⊎ IsSlotSectorOf m entries h k)

-- what stands for each of them is zeros
abbrev pub AreBlank : ℕ → (Bool → ℕ → ℕ) → ℕ → ℕ → Image → Type 0
AreBlank m entries first count image = (h i : ℕ) → first ≤ h → h < first + count → i < 8 → image (pool_stands m h (slot_by m entries h) + i) ≡ replicate sector_bytes 0

-- of a slot: it is given to one of these homes by this number
abbrev pub IsGivenAmong : ℕ → ℕ → ℕ → Type 0
IsGivenAmong first count number = (first < number) × (number ≤ first + count)

-- Of the slots at the first places of a body, which are given to homes by these numbers: a sector of one that is given to one of these homes
abbrev pub IsBlankedSlot : ℕ → Bool → (ℕ → ℕ) → ℕ → ℕ → ℕ → ℕ → Type 0
IsBlankedSlot m body numbers first count places k = (r : ℕ) × (r < places) × IsGivenAmong first count (numbers r) × IsPageSector (pool_slot m body r) k

-- and such slots are zeros
abbrev pub AreSlotsBlank : ℕ → Bool → (ℕ → ℕ) → ℕ → ℕ → ℕ → Image → Type 0
AreSlotsBlank m body numbers first count places image = (r i : ℕ) → r < places → IsGivenAmong first count (numbers r) → i < 8 → image (pool_slot m body r + i) ≡ replicate sector_bytes 0
