-- How a trace is cut into lines: at each byte 10, a newline, which belongs to no line (POSIX.1-2017, 3.206 "Line").
-- What follows the last newline is a line too where there is anything (3.195 "Incomplete Line").
use Rattle.std.specs.Prelude.{◌≡◌, ℕ, ◌==◌, List, [], ◌∷◌, ◌++◌, All, flat_map, ◌≢◌, codes, refl, if◌then◌else◌}

-- the byte b before what the first line holds
abbrev pub onto_line : ℕ → List (List ℕ) → List (List ℕ)
onto_line b [] = (b ∷ []) ∷ []
onto_line b (line ∷ lines) = (b ∷ line) ∷ lines

-- the lines of a trace
abbrev pub lines_of : List ℕ → List (List ℕ)
lines_of [] = []
lines_of (b ∷ bytes) = if b == 10 then [] ∷ lines_of bytes else onto_line b (lines_of bytes)

-- the line of what follows the last newline, where there is anything
abbrev pub last_line : List ℕ → List (List ℕ)
last_line [] = []
last_line (b ∷ bytes) = (b ∷ bytes) ∷ []

-- a line with its newline
abbrev pub ended : List ℕ → List ℕ
ended line = line ++ 10 ∷ []

-- no newline stands in it
abbrev pub HasNoNewline : List ℕ → Type 0
HasNoNewline line = All (λ b. b ≢ 10) line

-- the bytes so far are these lines, each ended, and then a line that isn't
pub record Cuts (bytes : List ℕ) (lines : List (List ℕ)) (open_line : List ℕ) : Type 0 where
  pub whole : bytes ≡ flat_map ended lines ++ open_line
  pub each : All HasNoNewline lines
  pub rest : HasNoNewline open_line

-- two lines, an empty one between them, and one that no newline ends
pub four_lines : lines_of (codes "spawn\n\nok\nhalted") ≡ codes "spawn" ∷ [] ∷ codes "ok" ∷ codes "halted" ∷ []
four_lines = refl

pub no_line : lines_of [] ≡ []
no_line = refl
