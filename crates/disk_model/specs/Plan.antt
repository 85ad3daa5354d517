-- When the calls of a simulated device fail, and which bytes were chosen for a stop.
use Rattle.std.specs.Prelude.{ℕ, ◌+◌, ◌-◌, ◌^◌, min, Bool, false, ◌==◌, if◌then◌else◌, Option, Some, None, List, [], ◌∷◌}

-- a count that stays at the top of a `u64`
abbrev pub one_more : ℕ → ℕ
one_more n = min (n + 1) (2 ^ 64 - 1)

-- a count of failures after a call
abbrev pub failures_after : Bool → ℕ → ℕ
failures_after fails before = if fails then before + 1 else before

-- what is armed for this count
abbrev pub is_at : Option ℕ → ℕ → Bool
is_at None count = false
is_at (Some k) count = k == count

-- the bytes that are listed first for this sector, or else these
abbrev pub first_listed : List (ℕ × List ℕ) → ℕ → List ℕ → List ℕ
first_listed [] n bytes = bytes
first_listed (choice ∷ rest) n bytes = if choice.0 == n then choice.1 else first_listed rest n bytes
