-- A map in memory.
use Rattle.std.specs.Prelude.{ℕ, zero, suc, ◌*◌, ◌<◌, ◌≡◌, Bool, true, false, List, [], ◌∷◌, ◌++◌, length, get_or, nat_lt, if◌then◌else◌, ◌==◌}
use Rattle.pool_journal.specs.declared.slot.Slot.{Slot}
use Rattle.pool_journal.specs.declared.map.SlotMap.{SlotMap}

-- what it gives the slot at place r of a body to: 0 is no home, and h + 1 home h
abbrev pub entries_of : SlotMap → Bool → ℕ → ℕ
entries_of map false r = get_or map.first.items r 0
entries_of map true r = get_or map.second.items r 0

-- a map of so many blocks
abbrev pub IsMapOf : ℕ → SlotMap → Type 0
IsMapOf blocks map = (length map.first.items ≡ 504 * blocks) × (length map.second.items ≡ 504 * blocks)

-- it gives no slot to a home
abbrev pub IsEmptyMap : SlotMap → Type 0
IsEmptyMap map = (body : Bool) (r : ℕ) → entries_of map body r ≡ 0

-- a slot that it has
abbrev pub IsSlotOf : SlotMap → Slot → Type 0
IsSlotOf map slot = (slot.place < length map.first.items) × (slot.place < length map.second.items)

-- One slot is given to another home, or to none:
pub record GivesSlot (old new : SlotMap) (slot : Slot) (number : ℕ) : Type 0 where
  -- that is what the map says of it,
  pub here : entries_of new slot.second slot.place ≡ number
  -- and of every other slot it says what it did.
  pub others : (body : Bool) (r : ℕ) → (r ≡ slot.place → body ≡ slot.second → ⊥) → entries_of new body r ≡ entries_of old body r
  pub size : (blocks : ℕ) → IsMapOf blocks old → IsMapOf blocks new

-- the slots of the first n places of a body that are given to no home, in order
unfoldable pub free_among : (ℕ → ℕ) → Bool → ℕ → List Slot
free_among names body zero = []
free_among names body (suc n) = free_among names body n ++ (if names n == 0 then record { second = body; place = n } ∷ [] else [])

-- names of places of which those before place p give a home
abbrev pub behind : ℕ → (ℕ → ℕ) → ℕ → ℕ
behind p names r = if nat_lt r p then 1 else names r

-- the slots that are given to no home from place p of one body on, to its end, over the other body and round to that place
abbrev pub slots_round : ℕ → (Bool → ℕ → ℕ) → Bool → Bool → ℕ → List Slot
slots_round m entries first other p = free_among (behind p (entries first)) first (504 * m) ++ (free_among (entries other) other (504 * m) ++ free_among (entries first) first p)

-- those of both bodies, first of one
abbrev pub free_slots : ℕ → (Bool → ℕ → ℕ) → Bool → Bool → List Slot
free_slots m entries first other = free_among (entries first) first (504 * m) ++ free_among (entries other) other (504 * m)
