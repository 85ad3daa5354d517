-- Pages of files, and the mark of a store. The format is our own.
use Rattle.std.specs.Prelude.{ℕ, ◌≡◌, ◌⊎◌, ◌+◌, ◌-◌, ◌/◌, List, [], ◌∷◌, ◌++◌, take, length, replicate}
pub use Rattle.vm_types.specs.Files.{bytes_inside}
use Rattle.sync_journal.specs.Gate.{repeated}

-- sector 0 of every store of layout 2: the bytes `FAMSYNC2`, 64 times
unfoldable pub mark : List ℕ
mark = repeated 64 (70 ∷ 65 ∷ 77 ∷ 83 ∷ 89 ∷ 78 ∷ 67 ∷ 50 ∷ [])

-- sector 0 of every store of layout 1: the bytes `FAMSYNC1`, 64 times
unfoldable pub mark_1 : List ℕ
mark_1 = repeated 64 (70 ∷ 65 ∷ 77 ∷ 83 ∷ 89 ∷ 78 ∷ 67 ∷ 49 ∷ [])

-- sectors 0 and 1 of every store of layout 3: the bytes `FAMSYNC3`, 64 times
unfoldable pub mark_3 : List ℕ
mark_3 = repeated 64 (70 ∷ 65 ∷ 77 ∷ 83 ∷ 89 ∷ 78 ∷ 67 ∷ 51 ∷ [])

-- sector 0 of every store of layout 4, whose pages stay in a pool: the bytes `FAMSYNC4`, 64 times
unfoldable pub pool_mark : List ℕ
pool_mark = repeated 64 (70 ∷ 65 ∷ 77 ∷ 83 ∷ 89 ∷ 78 ∷ 67 ∷ 52 ∷ [])

-- the most files of a store of layouts 1 to 3: the directory, a sector of 512 bytes, has an entry of eight bytes for each
abbrev pub listed_files : ℕ
listed_files = 64

-- the mark of any layout
abbrev pub IsMark : List ℕ → Type 0
IsMark sector = (sector ≡ mark) ⊎ ((sector ≡ mark_1) ⊎ ((sector ≡ mark_3) ⊎ (sector ≡ pool_mark)))

-- how many pages of 4,096 bytes a file of so many bytes has, the last one in part perhaps
abbrev pub pages_of_length : ℕ → ℕ
pages_of_length length = (length + 4095) / 4096

-- a page of 4,096 bytes that has the first n of these and then zeros
unfoldable pub padded_page : ℕ → List ℕ → List ℕ
padded_page n page = take n page ++ replicate (4096 - length (take n page)) 0
