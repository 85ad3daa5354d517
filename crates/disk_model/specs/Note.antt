-- What the log of a device notes: some numbers, some sectors' bytes and some marks.
use Rattle.std.specs.Prelude.{ℕ, Bool, List}

abbrev pub Note : Type 0
Note = List ℕ × List (List ℕ) × List Bool
