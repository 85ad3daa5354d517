-- How a commit changes a map in memory: which slots are taken from homes, and which are given to others.
use Rattle.std.specs.Prelude.{ℕ, zero, suc, ◌+◌, ◌*◌, ◌%◌, ◌<◌, ◌≤◌, ◌≡◌, ◌⊎◌, Bool, true, false, List, length, slice_index, slice_index_or, is_some, if◌then◌else◌, ◌==◌}
use Rattle.sync_journal.specs.Map.{home_rank}
use Rattle.pool_journal.specs.Maps.{entries_of, IsMapOf}
use Rattle.pool_journal.specs.declared.map.SlotMap.{SlotMap}
use Rattle.pool_journal.specs.declared.sieve.Sieve.{Sieve}
use Rattle.pool_journal.specs.declared.slot.Slot.{Slot}

-- homes in rising order, none twice
abbrev pub AreRising : List ℕ → Type 0
AreRising homes = (i j : ℕ) → i < j → j < length homes → slice_index homes i < slice_index homes j

-- what a slot is given to when these homes keep none
abbrev pub number_but : List ℕ → ℕ → ℕ
number_but homes zero = 0
number_but homes (suc h) = if is_some (home_rank homes h) then 0 else suc h

-- how many of the first n places are given to a home
unfoldable pub live_among : (ℕ → ℕ) → ℕ → ℕ
live_among names zero = 0
live_among names (suc n) = live_among names n + (if names n == 0 then 0 else 1)

-- A table of marks is of some homes:
pub record IsSieveOf (homes : List ℕ) (sieve : Sieve) : Type 0 where
  pub size : length sieve.marks ≡ 4096
  -- each of them has its mark, by its low bits,
  pub marked : (j : ℕ) → j < length homes → slice_index_or sieve.marks (slice_index homes j % 4096) false ≡ true
  -- and no other mark is there.
  pub only : (b : ℕ) → slice_index_or sieve.marks b false ≡ true → (j : ℕ) × (j < length homes) × (slice_index homes j % 4096 ≡ b)

-- Homes keep none of the n slots from one on, in a body that gives its slots to these numbers:
pub record ForgetsRun (homes : List ℕ) (from n : ℕ) (old new : List ℕ) (gone : ℕ) : Type 0 where
  -- one of those that was given to such a home is free, or it is given to what it was,
  pub forgotten : (r : ℕ) → from ≤ r → r < from + n → slice_index new r ≡ number_but homes (slice_index old r)
  -- as every other one is;
  pub others : (r : ℕ) → (r < from) ⊎ (from + n ≤ r) → slice_index new r ≡ slice_index old r
  pub size : length new ≡ length old
  -- so many were given to such a home,
  pub counted : gone + live_among (λ r. slice_index new r) (length old) ≡ live_among (λ r. slice_index old r) (length old)
  -- at most all of them.
  pub most : gone ≤ n

-- Homes keep no slot:
pub record Forgets (homes : List ℕ) (old new : SlotMap) (gone : ℕ) : Type 0 where
  -- a slot that was given to one of them is free, and every other one is given to what it was;
  pub forgotten : (body : Bool) (r : ℕ) → entries_of new body r ≡ number_but homes (entries_of old body r)
  pub size : (blocks : ℕ) → IsMapOf blocks old → IsMapOf blocks new
  -- so many were given to one of them.
  pub counted : (blocks : ℕ) → IsMapOf blocks old → gone + (live_among (entries_of new false) (504 * blocks) + live_among (entries_of new true) (504 * blocks))
      ≡ live_among (entries_of old false) (504 * blocks) + live_among (entries_of old true) (504 * blocks)

-- slot j of a list
abbrev pub slot_at : List Slot → ℕ → Slot
slot_at slots j = slice_index_or slots j (record { second = false; place = 0 })

-- no slot of a list stands in it twice
abbrev pub AreApart : List Slot → Type 0
AreApart slots = (i j : ℕ) → i < j → j < length slots → (slot_at slots i).place ≡ (slot_at slots j).place → (slot_at slots i).second ≡ (slot_at slots j).second → ⊥

-- slots of a pool that a map gives to no home
abbrev pub AreFree : ℕ → (Bool → ℕ → ℕ) → List Slot → Type 0
AreFree m entries slots = (j : ℕ) → j < length slots → ((slot_at slots j).place < 504 * m) × (entries (slot_at slots j).second (slot_at slots j).place ≡ 0)

-- slots that a map has
abbrev pub AreSlotsOf : SlotMap → List Slot → Type 0
AreSlotsOf map slots = (blocks : ℕ) × IsMapOf blocks map × ((j : ℕ) → j < length slots → (slot_at slots j).place < 504 * blocks)

-- The first n slots of a list are given to homes, each to one:
pub record GivesFirst (n : ℕ) (slots : List Slot) (homes : List ℕ) (old new : SlotMap) : Type 0 where
  -- slot j to home j,
  pub given : (j : ℕ) → j < n → entries_of new (slot_at slots j).second (slot_at slots j).place ≡ suc (slice_index homes j)
  -- and every other slot is given to what it was.
  pub others : (body : Bool) (r : ℕ) → ((j : ℕ) → j < n → r ≡ (slot_at slots j).place → body ≡ (slot_at slots j).second → ⊥) → entries_of new body r ≡ entries_of old body r
  pub size : (blocks : ℕ) → IsMapOf blocks old → IsMapOf blocks new
