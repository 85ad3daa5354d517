-- What a file holds and what a stop may leave of it, told from the calls noted on it, the newest first.
-- After POSIX pread(2), pwrite(2) and fdatasync(2).
use Rattle.std.specs.Prelude.{◌≡◌, ◌⊎◌, ◌≤◌, ℕ, ◌+◌, ◌-◌, nat_lt, Bool, false, not, ◌&&◌, ◌||◌, ◌==◌, if◌then◌else◌, IsTrue, List, [], ◌∷◌, length, slice_index, slice_index_or}
use Rattle.std.proofs.Common.{inl, ⊎_elim, arith}
use Rattle.disk_model.specs.Note.{Note}
use Rattle.disk_model.specs.Stop.{Image, MayLeave}

-- A call has its kind and its sector, the bytes that were read or given, and whether it succeeded.
abbrev pub is_read : Note → Bool
is_read call = slice_index call.0 0 == 0

abbrev pub is_write : Note → Bool
is_write call = slice_index call.0 0 == 1

abbrev pub is_sync : Note → Bool
is_sync call = slice_index call.0 0 == 2

abbrev pub sector_called : Note → ℕ
sector_called call = slice_index call.0 1

-- a call of several sectors has them from that one on
abbrev pub names_sector : Note → ℕ → Bool
names_sector call k = not (nat_lt k (sector_called call)) && nat_lt k (sector_called call + length call.1)

abbrev pub bytes_moved : Note → ℕ → List ℕ
bytes_moved call k = slice_index_or call.1 (k - sector_called call) []

abbrev pub succeeded : Note → Bool
succeeded call = slice_index_or call.2 0 false

abbrev pub has_succeeded : List Note → Bool
has_succeeded [] = false
has_succeeded (call ∷ earlier) = succeeded call || has_succeeded earlier

-- a write was asked for
abbrev pub has_written : List Note → Bool
has_written [] = false
has_written (call ∷ earlier) = is_write call || has_written earlier

-- A sync has failed. The system may then take pages for written that are not, so no later sync counts.
abbrev pub is_lost : List Note → Bool
is_lost [] = false
is_lost (call ∷ earlier) = (is_sync call && not (succeeded call)) || is_lost earlier

-- how many calls failed
abbrev pub failed_calls : List Note → ℕ
failed_calls [] = 0
failed_calls (call ∷ earlier) = if succeeded call then failed_calls earlier else failed_calls earlier + 1

-- how often calls have named sector k
abbrev pub times_called : List Note → ℕ → ℕ
times_called [] k = 0
times_called (call ∷ earlier) k = if names_sector call k then times_called earlier k + 1 else times_called earlier k

abbrev pub is_unsynced : List Note → ℕ → Bool
is_unsynced [] k = false
is_unsynced (call ∷ earlier) k =
    if is_write call then names_sector call k || is_unsynced earlier k
    else (if is_sync call && succeeded call && not (is_lost earlier) then false else is_unsynced earlier k)

-- the sectors written since the last sync that counts
abbrev pub Unsynced : List Note → ℕ → Type 0
Unsynced calls k = IsTrue (is_unsynced calls k)

-- Over what each sector held at first, and what a write that failed left in its sectors, by the number of calls before it.
module _ (at_first : Image) (after_fault : ℕ → Image) where
  -- what each sector holds
  abbrev pub held_after : List Note → Image
  held_after [] k = at_first k
  held_after (call ∷ earlier) k =
      if is_write call && names_sector call k then (if succeeded call then bytes_moved call k else after_fault (length earlier) k) else held_after earlier k

  -- Each read that succeeded gave what was held: the calls are those of an honest file. It speaks of reads alone. Writes and
  -- syncs may have answered anything, and what a stop leaves is no call: that it is what LeftAfter says is defined here, and
  -- taken of the system and its disk.
  abbrev pub IsHonest : List Note → Type 0
  IsHonest [] = Unit {0}
  IsHonest (call ∷ earlier) = IsHonest earlier × (IsTrue (is_read call && succeeded call) → (k : ℕ) → IsTrue (names_sector call k) → bytes_moved call k ≡ held_after earlier k)

  -- what a stop after some call from the t-th on might have left
  abbrev pub LeftAfter : List Note → ℕ → Image → Type 0
  LeftAfter [] t c = MayLeave (held_after []) (Unsynced []) c
  LeftAfter (call ∷ earlier) t c = MayLeave (held_after (call ∷ earlier)) (Unsynced (call ∷ earlier)) c ⊎ ((t ≤ length earlier) × LeftAfter earlier t c)

  pub counts_present : (calls : List Note) (t : ℕ) (c : Image) → MayLeave (held_after calls) (Unsynced calls) c → LeftAfter calls t c
  counts_present [] t c may = may
  counts_present (call ∷ earlier) t c may = inl may

  pub only_present : (calls : List Note) (c : Image) → LeftAfter calls (length calls) c → MayLeave (held_after calls) (Unsynced calls) c
  only_present [] c left = left
  only_present (call ∷ earlier) c left = ⊎_elim (λ now. now) (λ had. absurd (omega (arith, had.0))) left
