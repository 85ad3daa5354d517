-- The parts of a commit: a map is thinned, its slots are given to homes, what is loose is written, and the gate names it.
use Rattle.std.specs.Prelude.{ℕ, ◌+◌, ◌*◌, ◌<◌, ◌≡◌, ◌⊎◌, Bool, not, List, length, get_or, None, suc}
use Rattle.disk_model.specs.{Moments.{Touches}, Sectors.{part_of}, Stop.{Image, MayLeave}, declared.sector_disk.SectorDisk.{Ghosts}}
use Rattle.pool_journal.specs.{Giving.{number_but}, Journal.{live_count}, Pools.{pool_gate, pool_slot, pool_home, pool_stands, pool_entry, slot_by, IsLoose, IsLooseHome, IsPoolRest}}
use Rattle.sync_journal.specs.{Layout.{IsPageSector}, Map.{home_rank}}

-- What a map gives when these homes keep no slot.
abbrev pub thinned : List ℕ → (Bool → ℕ → ℕ) → Bool → ℕ → ℕ
thinned homes was body r = number_but homes (was body r)

-- A map was, and is thinned, over what the device held and holds:
pub record IsThinned (m : ℕ) (was thin : Bool → ℕ → ℕ) (homes : List ℕ) (content staged : Image) : Type 0 where
  -- what was free is,
  pub free : (body : Bool) (r : ℕ) → was body r ≡ 0 → thin body r ≡ 0
  -- these homes have no slot,
  pub taken : (body : Bool) (r j : ℕ) → j < length homes → thin body r ≡ suc (get_or homes j 0) → ⊥
  -- and any other has the slot that it had, or holds what that held.
  pub moved : (h : ℕ) → home_rank homes h ≡ None → (slot_by m thin h ≡ slot_by m was h)
      ⊎ ((slot_by m thin h ≡ None) × ((i : ℕ) → i < 8 → staged (pool_home m h + i) ≡ content (pool_stands m h (slot_by m was h) + i)))

-- A map was, is thinned, and is now this, over what the device held and holds:
pub record GivesHomes (m : ℕ) (was thin now : Bool → ℕ → ℕ) (homes : List ℕ) (told : ℕ → Type 0) (pages : ℕ → List ℕ) (content staged : Image) : Type 0 where
  -- each slot is given to what the thinned map gives it to, or that gives it to none and it is given to home j and holds page j, where that is told;
  pub given : (body : Bool) (r : ℕ) → r < 504 * m → (now body r ≡ thin body r)
      ⊎ ((j : ℕ) × (j < length homes) × (now body r ≡ suc (get_or homes j 0)) × (thin body r ≡ 0) × (told j → (i : ℕ) → i < 8
      → staged (pool_slot m body r + i) ≡ part_of (pages j) i))
  -- each home is given a slot,
  pub placed : (j : ℕ) → j < length homes → (body : Bool) × (r : ℕ) × (r < 504 * m) × (now body r ≡ suc (get_or homes j 0))
  -- and none by the thinned map;
  pub taken : (body : Bool) (r : ℕ) → r < 504 * m → (j : ℕ) → j < length homes → thin body r ≡ suc (get_or homes j 0) → ⊥
  -- every other home has the slot that it had, or holds what that held.
  pub moved : (h : ℕ) → home_rank homes h ≡ None → (slot_by m thin h ≡ slot_by m was h)
      ⊎ ((slot_by m thin h ≡ None) × ((i : ℕ) → i < 8 → staged (pool_home m h + i) ≡ content (pool_stands m h (slot_by m was h) + i)))

-- A map was, and is now this, over what the device held and holds: each home but these stands as it did.
abbrev pub KeepsOthers : ℕ → (Bool → ℕ → ℕ) → (Bool → ℕ → ℕ) → List ℕ → Image → Image → Type 0
KeepsOthers m was now homes content staged = (h i : ℕ) → home_rank homes h ≡ None → i < 8
    → staged (pool_stands m h (slot_by m now h) + i) ≡ content (pool_stands m h (slot_by m was h) + i)

-- A slot that a map gives to a home, and gave to another one or to none before, it gave to none: no page that stood in a slot is written over.
abbrev pub TakesFree : ℕ → (Bool → ℕ → ℕ) → (Bool → ℕ → ℕ) → Type 0
TakesFree m was now = (body : Bool) (r : ℕ) → r < 504 * m → (now body r ≡ was body r) ⊎ ((was body r ≡ 0) ⊎ (now body r ≡ 0))

-- a sector of a slot that was given to no home, and is given to one
abbrev pub IsTaken : ℕ → (Bool → ℕ → ℕ) → (Bool → ℕ → ℕ) → ℕ → Type 0
IsTaken m was now k = (body : Bool) × (r : ℕ) × (r < 504 * m) × (was body r ≡ 0) × (now body r ≡ 0 → ⊥) × IsPageSector (pool_slot m body r) k

-- a sector of a slot that a map gives to a home
abbrev pub IsLiveSlot : ℕ → (Bool → ℕ → ℕ) → ℕ → Type 0
IsLiveSlot m entries k = (body : Bool) × (r : ℕ) × (r < 504 * m) × (entries body r ≡ 0 → ⊥) × IsPageSector (pool_slot m body r) k

-- what is copied home, from and to
abbrev pub IsMoved : ℕ → (Bool → ℕ → ℕ) → ℕ → Type 0
IsMoved m entries k = IsLiveSlot m entries k ⊎ IsLooseHome m entries k

-- slots for the homes of a commit, and for all others that have one, are more than a body has
abbrev pub IsFull : ℕ → (Bool → ℕ → ℕ) → List ℕ → Type 0
IsFull m was homes = 504 * m < live_count m (thinned homes was) + length homes

-- what a commit drops then: the pages of the others, copied home
abbrev pub IsDropped : ℕ → (Bool → ℕ → ℕ) → List ℕ → ℕ → Type 0
IsDropped m was homes k = IsFull m was homes × IsMoved m (thinned homes was) k

-- What is loose is written, from a rest on.
pub record IsWritten {D : Type 0} (g : Ghosts D) (m n : ℕ) (second : Bool) (was : Bool → ℕ → ℕ) (old mid : D) : Type 0 where
  pub only_now : (image : Image) → g.left_since old (g.moment old) image → MayLeave (g.content old) (g.unsynced old) image
  pub rest : IsPoolRest g m n second was old
  pub run : Touches g (IsLoose m second was) old mid

-- It is synced, with a map that gives the slots so, and then that map is named.
pub record NamesMap {D : Type 0} (g : Ghosts D) (m n : ℕ) (second : Bool) (now : Bool → ℕ → ℕ) (mid new : D) : Type 0 where
  pub map : (body : Bool) (r : ℕ) → r < 504 * m → pool_entry m n (not second) (g.content mid) body r ≡ now body r
  pub synced : (k : ℕ) → g.unsynced mid k → ⊥
  pub names : Touches g (λ k. k ≡ pool_gate) mid new
