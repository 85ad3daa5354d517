use Rattle.std.proofs.Common.{◌≡◌, ◌<◌, ◌≤◌, ◌+◌, ◌-◌, ◌*◌, ◌⊎◌, ℕ, Bool}
use Rattle.disk_model.specs.{Moments.{Nothing}, Stop.{NamesOnce}}
use Rattle.pool_journal.specs.{Maps.{entries_of, IsMapOf}, Pools.{pool_start, pool_block, block_number, within}}
use Rattle.sync_journal.specs.Runs.{RunsOnDevice}
use Rattle.pool_journal.proofs.map_blocks.read_rest.Given as goal

-- the blocks before q are read
abbrev pub invariant-loop-q : goal.invariant-loop-q
invariant-loop-q g l = RunsOnDevice g.D.SectorDisk Nothing l.fn.disk l.disk
    × (g.D.SectorDisk.keeps_model l.disk → g.D.SectorDisk.content l.disk ≡ g.D.SectorDisk.content l.fn.disk)
    × (g.D.SectorDisk.keeps_model l.disk → (body : Bool) (q i : ℕ) → 1 ≤ q → q < l.q → i < 504
    → entries_of l.map body (504 * q + i) ≡ within l.sizes.homes (block_number body i (pool_block l.sizes.blocks l.second (g.D.SectorDisk.content l.fn.disk) q)))
    × ((body : Bool) (r : ℕ) → (r < 504) ⊎ (504 * l.q ≤ r) → entries_of l.map body r ≡ 0) × IsMapOf l.sizes.blocks l.map
    × ((body : Bool) (r : ℕ) → entries_of l.map body r ≤ l.sizes.homes) × (g.D.SectorDisk.failures l.disk ≡ g.D.SectorDisk.failures l.fn.disk)
    × NamesOnce (λ k. (pool_start l.sizes.blocks l.second + 8 * (l.sizes.blocks - l.q) ≤ k) × (k + 8 < pool_start l.sizes.blocks l.second + 8 * l.sizes.blocks)) (g.D.SectorDisk.asked l.fn.disk) (g.D.SectorDisk.asked l.disk)
    × (1 ≤ l.q) × ((l.q ≡ 1) ⊎ (l.q ≤ l.counted))
