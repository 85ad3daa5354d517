-- Share counts, and a stack of the slots that have none.
use Rattle.std.specs.Prelude.{◌≡◌, ◌≢◌, ℕ, ◌<◌, ◌≤◌, ◌==◌, List, length, slice_index_or}
use Rattle.vm_types.specs.Counting.{count_below}

-- the share count of slot n, 0 past the end
abbrev pub count_at : List ℕ → ℕ → ℕ
count_at counts n = slice_index_or counts n 0

-- how many slots have no share
abbrev pub free_count : List ℕ → ℕ
free_count counts = count_below (λ n. count_at counts n == 0) (length counts)

-- The stack holds as many slots as have no share, each of them without one, and none twice: so it holds them all.
pub record IsStack (counts stack : List ℕ) : Type 0 where
  pub free : (k : ℕ) → k < length stack → (slice_index_or stack k 0 < length counts) × (count_at counts (slice_index_or stack k 0) ≡ 0)
  pub once : (j k : ℕ) → j < k → k < length stack → slice_index_or stack j 0 ≢ slice_index_or stack k 0
  pub all : length stack ≡ free_count counts

-- what is true of share counts at all times
pub record AreSoundCounts (counts : List ℕ) : Type 0 where
  pub most : length counts ≤ 65536
  pub shared : (n : ℕ) → count_at counts n ≤ 64
