-- What a stop at some moment of a run of calls might have left, and which sectors the calls named, for any device.
use Rattle.std.specs.Prelude.{ℕ, ◌≡◌, ◌⊎◌, ◌≤◌}
use Rattle.disk_model.specs.Stop.{Image, MayLeave}
use Rattle.disk_model.specs.declared.sector_disk.SectorDisk.{Ghosts}

-- no sector
abbrev pub Nothing : ℕ → Type 0
Nothing k = ⊥

module _ {D : Type 0} (g : Ghosts D) where
  -- From old to new no sector but those of W was written, at any moment.
  pub record Touches (W : ℕ → Type 0) (old new : D) : Type 0 where
    pub content : (k : ℕ) → W k ⊎ (g.content new k ≡ g.content old k)
    pub unsynced : (k : ℕ) → g.unsynced new k → g.unsynced old k ⊎ W k
    pub later : g.moment old ≤ g.moment new
    pub moments : (t : ℕ) (c : Image) → t ≤ g.moment old → g.left_since new t c
        → g.left_since old t c ⊎ MayLeave (g.content old) (λ k. g.unsynced old k ⊎ W k) c

  -- every image that a stop may leave now has P
  abbrev pub LeavesNow : D → (Image → Type 0) → Type 0
  LeavesNow d P = (c : Image) → MayLeave (g.content d) (g.unsynced d) c → P c

  -- every image that a stop at some moment from old to new might have left has P
  pub record LeavesOnly (old new : D) (P : Image → Type 0) : Type 0 where
    pub later : g.moment old ≤ g.moment new
    pub each : (c : Image) → g.left_since new (g.moment old) c → P c
    -- for a run that began earlier
    pub before : (t : ℕ) (c : Image) → t ≤ g.moment old → g.left_since new t c → g.left_since old t c ⊎ P c

  -- From old to new no call named a sector but those of W.
  pub record AsksOnly (W : ℕ → Type 0) (old new : D) : Type 0 where
    pub others : (k : ℕ) → W k ⊎ (g.asked new k ≡ g.asked old k)
