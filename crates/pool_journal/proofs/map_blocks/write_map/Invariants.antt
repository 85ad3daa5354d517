use Rattle.std.proofs.Common.{◌≡◌, ◌<◌, ◌≤◌, ◌+◌, ◌-◌, ◌*◌, ℕ}
use Rattle.disk_model.specs.Stop.{NamesOnce}
use Rattle.pool_journal.specs.{Blocks.{NotesBlock}, Maps.{entries_of}, Pools.{pool_start, pool_block, IsPoolMap}}
use Rattle.sync_journal.specs.Runs.{RunsOnDevice}
use Rattle.pool_journal.proofs.map_blocks.write_map.Given as goal

-- the blocks from q on are written
abbrev pub invariant-loop-q : goal.invariant-loop-q
invariant-loop-q g l = RunsOnDevice g.D.SectorDisk (IsPoolMap l.fn.sizes.blocks l.second) l.fn.disk l.disk
    × (g.D.SectorDisk.keeps_model l.disk → (j : ℕ) → l.q ≤ j → j < l.counted → NotesBlock j l.counted (entries_of l.map) (pool_block l.fn.sizes.blocks l.second (g.D.SectorDisk.content l.disk) j))
    × (g.D.SectorDisk.failures l.disk ≡ g.D.SectorDisk.failures l.fn.disk)
    × NamesOnce (λ k. (pool_start l.fn.sizes.blocks l.second + 8 * (l.fn.sizes.blocks - l.counted) ≤ k) × (k + 8 * l.q < pool_start l.fn.sizes.blocks l.second + 8 * l.fn.sizes.blocks)) (g.D.SectorDisk.asked l.fn.disk) (g.D.SectorDisk.asked l.disk)
