-- What a line of pagelook's input is.
use Rattle.std.specs.Prelude.{ℕ, List, [], ◌∷◌, Bool, true, false, ◌==◌, if◌then◌else◌}

-- a comment begins with #, and a question with ?; every other line is one of a trace
abbrev pub is_aside : List ℕ → Bool
is_aside [] = false
is_aside (byte ∷ rest) = if byte == 35 then true else (byte == 63)
