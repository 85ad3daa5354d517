-- Stops that spoil whole blocks. A system and most disks write 4,096 bytes at once, so a write that is cut off may leave any bytes
-- in the sectors beside it, too. This asks less of a device than Stop does, and a store with a pool keeps its word under it: what it writes is
-- made of blocks that hold nothing else that stands.
use Rattle.std.specs.Prelude.{ℕ, ◌/◌, ◌≡◌, ◌⊎◌}
use Rattle.disk_model.specs.Stop.{Image}
use Rattle.disk_model.specs.Moments.{Touches}
use Rattle.disk_model.specs.declared.sector_disk.SectorDisk.{Ghosts}

-- two sectors of one block of 4,096 bytes
abbrev pub IsSameBlock : ℕ → ℕ → Type 0
IsSameBlock k j = k / 8 ≡ j / 8

-- A stop may leave any bytes in each block that has an unsynced sector, and in each other sector what it holds.
pub record MayLeaveBlocks (content : Image) (unsynced : ℕ → Type 0) (image : Image) : Type 0 where
  pub kept : (k : ℕ) → ((j : ℕ) × IsSameBlock k j × unsynced j) ⊎ (image k ≡ content k)

module _ {D : Type 0} (g : Ghosts D) where
  -- From old to new sectors of W alone were written, and after whatever part of that, any stop that spoils blocks leaves an
  -- image with P.
  pub record LeavesInBlocks (W : ℕ → Type 0) (P : Image → Type 0) (old new : D) : Type 0 where
    pub writes : Touches g W old new
    pub each : (d : D) → Touches g W old d → (image : Image) → MayLeaveBlocks (g.content d) (g.unsynced d) image → P image
