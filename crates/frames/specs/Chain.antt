-- How free frames hang together: each holds the number of the next in its first four bytes, 0 at the end.
use Rattle.std.specs.Prelude.{◌≡◌, ◌≢◌, ℕ, ◌<◌, ◌≤◌, ◌⊎◌, List, [], ◌∷◌}
use Rattle.byteorder.specs.Endian.{little_number}
use Rattle.frames.specs.declared.role.Role.TheVariants.{Free, Table}
use Rattle.frames.specs.FrameTable.{FrameTable, frame_count, bytes_of, role_of, count_of, IsFrame}

-- the number of the next free frame, in the bytes of a free frame
abbrev pub next_of : List ℕ → ℕ
next_of bytes = little_number 4 bytes

abbrev pub IsAbsent : ℕ → List ℕ → Type 0
IsAbsent n [] = Unit {0}
IsAbsent n (m ∷ ms) = (n ≢ m) × IsAbsent n ms

abbrev pub IsOn : ℕ → List ℕ → Type 0
IsOn n [] = ⊥
IsOn n (m ∷ ms) = (n ≡ m) ⊎ IsOn n ms

-- the chain from this number on goes over exactly these frames, each free and each once
abbrev pub IsChain : FrameTable → ℕ → List ℕ → Type 0
IsChain t first [] = first ≡ 0
IsChain t first (n ∷ ns) =
    (first ≡ n) × (0 < n) × IsFrame t n × (role_of t n ≡ Free) × IsAbsent n ns × IsChain t (next_of (bytes_of t n)) ns

-- the chain that begins there holds every free frame
pub record IsChained (t : FrameTable) (first : ℕ) : Type 0 where
  pub free : List ℕ
  pub chain : IsChain t first free
  pub complete : (n : ℕ) → IsFrame t n → role_of t n ≡ Free → IsOn n free

-- As memory is made: the frames from `low` up to, not including, `high` are tables, and those from there on are free.
pub record IsAllTables (t : FrameTable) (count low high : ℕ) : Type 0 where
  pub frames : frame_count t ≡ count
  pub tables : (n : ℕ) → low ≤ n → n < high → role_of t n ≡ Table
  pub counts : (n : ℕ) → low ≤ n → n < high → count_of t n ≡ 1
  pub free : (n : ℕ) → high ≤ n → n < count → role_of t n ≡ Free
