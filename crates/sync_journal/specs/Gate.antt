-- The gate of the journal. The format is our own.
use Rattle.std.specs.Prelude.{ℕ, zero, suc, Bool, List, [], ◌∷◌, ◌++◌, replicate, if◌then◌else◌}
use Rattle.std.specs.Str.{bytes_eq}
use Rattle.disk_model.specs.Sectors.{sector_bytes}
use Rattle.disk_model.specs.Stop.{Image}
use Rattle.sync_journal.specs.Layout.{gate_sector}

-- a word, n times over
abbrev pub repeated : ℕ → List ℕ → List ℕ
repeated zero word = []
repeated (suc n) word = word ++ repeated n word

-- an open gate: the bytes `GATEOPEN`, 64 times
unfoldable pub open_sector : List ℕ
open_sector = repeated 64 (71 ∷ 65 ∷ 84 ∷ 69 ∷ 79 ∷ 80 ∷ 69 ∷ 78 ∷ [])

-- a closed gate as it is written: zeros
abbrev pub closed_sector : List ℕ
closed_sector = replicate sector_bytes 0

-- every content of the sector but that of an open gate is a closed one
unfoldable pub is_open_sector : List ℕ → Bool
is_open_sector sector = bytes_eq sector open_sector

abbrev pub is_open : Image → Bool
is_open image = is_open_sector (image gate_sector)

-- what closing leaves in the gate: zeros where it was open, otherwise what it held
abbrev pub closed_gate : Image → List ℕ
closed_gate image = if is_open image then closed_sector else image gate_sector
