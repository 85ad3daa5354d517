-- How large a pool is, and on which device.
use Rattle.std.specs.Prelude.{◌≤◌, ◌≡◌}
use Rattle.disk_model.specs.declared.sector_disk.SectorDisk.{Ghosts}
use Rattle.pool_journal.specs.Pools.{most_blocks, pool_home, pool_home_count}
use Rattle.pool_journal.specs.declared.sizes.PoolSizes.{PoolSizes}

-- a pool has slots, and no more than a map can name
abbrev pub IsSized : PoolSizes → Type 0
IsSized sizes = (1 ≤ sizes.blocks) × (sizes.blocks ≤ most_blocks)

-- The device is one of a store with such a pool:
pub record HasPool {D : Type 0} (g : Ghosts D) (sizes : PoolSizes) (disk : D) : Type 0 where
  -- the pool has slots,
  pub sized : IsSized sizes
  -- it lies on the device,
  pub room : pool_home sizes.blocks 0 ≤ g.sector_count disk
  -- and behind it so many homes.
  pub homes : sizes.homes ≡ pool_home_count sizes.blocks (g.sector_count disk)
