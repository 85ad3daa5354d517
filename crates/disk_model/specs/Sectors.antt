-- Sectors, and the pages that they make: 4,096 bytes are eight sectors.
use Rattle.std.specs.Prelude.{ℕ, zero, suc, ◌*◌, List, [], ◌++◌, take, drop}

-- the bytes of a sector
abbrev pub sector_bytes : ℕ
sector_bytes = 512

-- sector i of a page
abbrev pub part_of : List ℕ → ℕ → List ℕ
part_of page i = take sector_bytes (drop (sector_bytes * i) page)

-- the first n pieces, one after another
unfoldable pub joined : (ℕ → List ℕ) → ℕ → List ℕ
joined pieces zero = []
joined pieces (suc n) = joined pieces n ++ pieces n
