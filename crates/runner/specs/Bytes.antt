-- What an engine that reads lines and writes replies does with bytes.
use Rattle.std.specs.Prelude.{◌≡◌, ℕ, List, ◌++◌, Option}
use Rattle.std.specs.Io.KnownBytes.{Appends}

-- these bytes are a beginning of those
abbrev pub StartsAs : {A : Type 0} → List A → List A → Type 0
StartsAs {A} front whole = (rest : List A) × (whole ≡ front ++ rest)

-- a writer took a beginning of these bytes, and no others
abbrev pub WritesBeginning : Option (List ℕ) → Option (List ℕ) → List ℕ → Type 0
WritesBeginning old new bytes = (front : List ℕ) × Appends old new front × StartsAs front bytes
