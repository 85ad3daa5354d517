-- The gate of a pool.
use Rattle.std.specs.Prelude.{ℕ, ◌≡◌}
use Rattle.pool_journal.specs.Pools.{pool_gate}

-- the gate
abbrev pub IsPoolGate : ℕ → Type 0
IsPoolGate k = k ≡ pool_gate
