-- The journal of a pool in memory.
use Rattle.std.specs.Prelude.{ℕ, ◌+◌, ◌*◌, ◌≤◌, ◌≡◌, Bool, true, false, not, List, length, nat_lt, vec_capacity}
use Rattle.pool_journal.specs.Giving.{number_but, live_among}
use Rattle.pool_journal.specs.Maps.{entries_of, IsMapOf, IsEmptyMap, free_slots}
use Rattle.pool_journal.specs.Sizes.{IsSized}
use Rattle.pool_journal.specs.declared.pool.PoolJournal.{PoolJournal}
use Rattle.pool_journal.specs.declared.taking.TakenSlots.{TakenSlots}
use Rattle.pool_journal.specs.declared.sizes.PoolSizes.{PoolSizes}

-- how many slots a map gives to no home
abbrev pub free_count : ℕ → (Bool → ℕ → ℕ) → ℕ
free_count m entries = length (free_slots m entries false true)

-- A list of slots has room for all those of a pool of so many blocks.
abbrev pub HasRoom : ℕ → TakenSlots → Type 0
HasRoom m taken = 1008 * m ≤ vec_capacity taken.slots

-- A journal between two commits:
pub record IsPoolJournal (journal : PoolJournal) : Type 0 where
  -- its pool has slots,
  pub sized : IsSized journal.sizes
  -- it has a map of them, and room for another,
  pub map : IsMapOf journal.sizes.blocks journal.map
  pub next : IsMapOf journal.sizes.blocks journal.next
  -- the map gives them to homes of the device alone,
  pub homes : (body : Bool) (r : ℕ) → entries_of journal.map body r ≤ journal.sizes.homes
  -- those that it gives to none are counted, and there is room for a list of them.
  pub counted : journal.free ≡ free_count journal.sizes.blocks (entries_of journal.map)
  pub room : HasRoom journal.sizes.blocks journal.taken

-- A new journal:
pub record IsNewJournal (sizes : PoolSizes) (journal : PoolJournal) : Type 0 where
  pub is : IsPoolJournal journal
  -- it is so large,
  pub size : journal.sizes ≡ sizes
  -- and its map is the first one, and gives no slot to a home.
  pub first : journal.second ≡ false
  pub empty : IsEmptyMap journal.map

-- how many slots a map gives to homes
abbrev pub live_count : ℕ → (Bool → ℕ → ℕ) → ℕ
live_count m entries = live_among (entries false) (504 * m) + live_among (entries true) (504 * m)

-- The map of the next commit is begun:
pub record BeginsMap (homes : List ℕ) (old new : PoolJournal) (full : Bool) : Type 0 where
  -- it is the map, but its homes keep no slot;
  pub next : (body : Bool) (r : ℕ) → entries_of new.next body r ≡ number_but homes (entries_of old.map body r)
  -- the answer is whether slots for them and for the others are more than a body has;
  pub full_is : full ≡ nat_lt (504 * old.sizes.blocks) (live_count old.sizes.blocks (entries_of new.next) + length homes)
  -- and nothing else changes.
  pub is : IsPoolJournal new
  pub sizes : new.sizes ≡ old.sizes
  pub second : new.second ≡ old.second
  pub map : new.map ≡ old.map
  pub free : new.free ≡ old.free

-- The gate names the other map, which is the next one:
pub record TurnsMap (old new : PoolJournal) : Type 0 where
  pub is : IsPoolJournal new
  pub sizes : new.sizes ≡ old.sizes
  pub second : new.second ≡ not old.second
  pub map : new.map ≡ old.next
