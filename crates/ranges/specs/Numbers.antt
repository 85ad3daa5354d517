-- The objects of which pages are, marked by their numbers.
use Rattle.std.specs.Prelude.{◌≡◌, ◌≤◌, ◌<◌, ◌⊎◌, ℕ, Bool, true, false, Option, List, length, get_or}
use Rattle.vm_types.specs.Limits.{named_limit, widest_end}
use Rattle.vm_types.specs.declared.region.Attr.{Attr}
use Rattle.vm_types.specs.Objects.{Maps, uses}

-- a page of the row from one page on up to another is of the object
abbrev pub IsUsedBetween : (ℕ → Option Attr) → ℕ → ℕ → ℕ → Type 0
IsUsedBetween map from end object = (k : ℕ) × (from ≤ k) × (k < end) × (uses (map k) object ≡ true)

-- a page of the process is of the object
abbrev pub IsUsedBy : Maps → ℕ → ℕ → Type 0
IsUsedBy maps pid object = (k : ℕ) × (k < widest_end) × (uses (maps pid k) object ≡ true)

-- these objects were marked, and no others
pub record Marks (some : ℕ → Type 0) (old new : List Bool) : Type 0 where
  pub room : length new ≡ length old
  pub kept : (o : ℕ) → get_or old o false ≡ true → get_or new o false ≡ true
  pub all : (o : ℕ) → o < named_limit → some o → get_or new o false ≡ true
  pub only : (o : ℕ) → get_or new o false ≡ true → (get_or old o false ≡ true) ⊎ some o
