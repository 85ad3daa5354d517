-- The pool of a new store.
use Rattle.std.specs.Prelude.{ℕ, ◌+◌, ◌-◌, ◌*◌, ◌≡◌, ◌⊎◌, false}
use Rattle.disk_model.specs.Stop.{Image}
use Rattle.pool_journal.specs.Pools.{pool_gate, pool_start, pool_named, pool_counted}
use Rattle.sync_journal.specs.Layout.{IsPageSector}

-- An empty pool: the gate names the first map, of which no block counts.
pub record IsEmptyPool (m : ℕ) (image : Image) : Type 0 where
  pub gate : pool_named image ≡ false
  pub count : pool_counted m false image ≡ 0

-- the gate, and the first block of the first map, which says how many count
abbrev pub IsHeadOfPool : ℕ → ℕ → Type 0
IsHeadOfPool m k = (k ≡ pool_gate) ⊎ IsPageSector (pool_start m false + 8 * (m - 1)) k
