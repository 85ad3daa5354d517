-- Stops that spoil whole blocks of 4,096 bytes, while a store of layout 4 is made.
-- A device that writes blocks may leave any bytes in each block that was written to since the last sync, not in the sectors alone.
use Rattle.std.specs.Prelude.{ℕ, ◌⊎◌}
use Rattle.disk_model.specs.Stop.{Image}
use Rattle.disk_model.specs.Moments.{Touches}
use Rattle.disk_model.specs.declared.sector_disk.SectorDisk.{Ghosts}
use Rattle.sync_journal.specs.Blocks.{LeavesInBlocks}
use Rattle.file_store.specs.Format.{IsFrom, IsKindSector, IsMarkSector}

module _ {D : Type 0} (g : Ghosts D) where
  -- A store of layout 4 is made from sync to sync, as far as it got: all outside the block of the mark; then its kind; then its mark.
  pub data MakesByBlocks (P : Image → Type 0) (old new : D) : Type 0 where
    Unmarked : LeavesInBlocks g (IsFrom 8) P old new → MakesByBlocks P old new
    OfKind : (tables : D) → LeavesInBlocks g (IsFrom 8) P old tables → LeavesInBlocks g IsKindSector P tables new → MakesByBlocks P old new
    Marked : (tables kind : D) → LeavesInBlocks g (IsFrom 8) P old tables → LeavesInBlocks g IsKindSector P tables kind → LeavesInBlocks g IsMarkSector P kind new → MakesByBlocks P old new

  -- Sectors of W are written and synced, the device then holds what Q says, and then the kind is written.
  pub record KindBehind (W : ℕ → Type 0) (Q : Image → Type 0) (old new : D) : Type 0 where
    pub tables : D
    pub before : Touches g W old tables
    pub synced : (k : ℕ) → g.unsynced tables k → ⊥
    pub holds : Q (g.content tables)
    pub kind : Touches g IsKindSector tables new

  -- so far, or not so far yet
  abbrev pub KindLast : (ℕ → Type 0) → (Image → Type 0) → D → D → Type 0
  KindLast W Q old new = Touches g W old new ⊎ KindBehind W Q old new
