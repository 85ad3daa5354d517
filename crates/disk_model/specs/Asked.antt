-- How often calls have named each sector, told from notes of them, the newest first.
use Rattle.std.specs.Prelude.{ℕ, ◌+◌, nat_lt, Bool, not, ◌&&◌, if◌then◌else◌, List, [], ◌∷◌, slice_index}
use Rattle.disk_model.specs.Note.{Note}
use Rattle.disk_model.specs.declared.asking.Asked.{Asked}

-- sector k is one of so many from the first on
abbrev pub is_among : ℕ → ℕ → ℕ → Bool
is_among first count k = not (nat_lt k first) && nat_lt k (first + count)

-- each note says from which sector on, and how many
abbrev pub times_in : List Note → ℕ → ℕ
times_in [] k = 0
times_in (call ∷ earlier) k = if is_among (slice_index call.0 0) (slice_index call.0 1) k then times_in earlier k + 1 else times_in earlier k

abbrev pub times_named : Asked → ℕ → ℕ
times_named asked = times_in asked.calls.notes
