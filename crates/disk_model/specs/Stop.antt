-- What a device holds, and what a stop may leave in it.
-- After POSIX write(2) and fsync(2): until a sync succeeds, nothing is known of what a stop leaves where a write was made.
use Rattle.std.specs.Prelude.{ℕ, List, ◌+◌, ◌*◌, ◌≡◌, ◌≢◌, ◌⊎◌, ◌≤◌, ◌<◌, Result, OnOk, IsErr}

-- the bytes of each sector
abbrev pub Image : Type 0
Image = ℕ → List ℕ

-- A stop may leave any bytes in each unsynced sector, and in each other one what it holds.
pub record MayLeave (content : Image) (unsynced : ℕ → Type 0) (image : Image) : Type 0 where
  pub kept : (k : ℕ) → unsynced k ⊎ (image k ≡ content k)

-- no sector but n holds other bytes
pub record ChangesOnly (n : ℕ) (old new : Image) : Type 0 where
  pub others : (k : ℕ) → k ≢ n → new k ≡ old k

-- one of the eight sectors of the page that begins at sector n
abbrev pub IsOfPage : ℕ → ℕ → Type 0
IsOfPage n k = (n ≤ k) × (k < n + 8)

-- one of the sectors of so many pages, one after the other, the first of which begins at sector n
abbrev pub IsOfPages : ℕ → ℕ → ℕ → Type 0
IsOfPages n pages k = (n ≤ k) × (k < n + 8 * pages)

-- no sector but those of the page at n holds other bytes
pub record ChangesPage (n : ℕ) (old new : Image) : Type 0 where
  pub others : (k : ℕ) → (IsOfPage n k → ⊥) → new k ≡ old k

-- no sector but those of these pages holds other bytes
pub record ChangesPages (n pages : ℕ) (old new : Image) : Type 0 where
  pub others : (k : ℕ) → (IsOfPages n pages k → ⊥) → new k ≡ old k

-- Time goes on: a stop since t might have left what it might have left before, or what it may leave now.
pub record Elapses (before now : ℕ) (past since : ℕ → Image → Type 0) (content : Image) (unsynced : ℕ → Type 0) : Type 0 where
  pub later : before ≤ now
  pub nothing_else : (t : ℕ) (c : Image) → t ≤ before → since t c → past t c ⊎ MayLeave content unsynced c
  pub keeps : (t : ℕ) (c : Image) → t ≤ before → past t c → since t c

-- An error is told exactly where the device failed in this call.
pub record HasCause {T E : Type 0} (before now : ℕ) (result : Result T E) : Type 0 where
  pub later : before ≤ now
  pub failed : IsErr result → before < now
  pub calm : OnOk result (now ≡ before)

-- From before to now calls named each sector of W once more, and no other.
pub record Names (W : ℕ → Type 0) (before now : ℕ → ℕ) : Type 0 where
  pub named : (k : ℕ) → W k → now k ≡ before k + 1
  pub others : (k : ℕ) → W k ⊎ (now k ≡ before k)

-- From before to now calls named no sector but those of W, and each of them once at most.
pub record NamesOnce (W : ℕ → Type 0) (before now : ℕ → ℕ) : Type 0 where
  pub each : (k : ℕ) → (now k ≡ before k) ⊎ (W k × (now k ≡ before k + 1))
