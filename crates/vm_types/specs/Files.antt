-- Files, each of some length, in pages of 4,096 bytes.
use Rattle.std.specs.Prelude.{ℕ, ◌≡◌, refl, false, ◌-◌, ◌*◌, min, Bool, true, ◌==◌, ◌&&◌, nat_le, if◌then◌else◌, List, ◌++◌, take, replicate, Option, Some, None}
use Rattle.vm_types.specs.declared.file.FileInfo.{FileInfo}
use Rattle.vm_types.specs.View.{Pages}

-- the files of an image, by number
abbrev pub Files : Type 0
Files = ℕ → Option FileInfo

-- What files hold: which there are, with their lengths, and the bytes of each of their pages.
pub record Contents : Type 0 where
  pub files : Files
  pub pages : Pages

-- whether a page begins at or past the end of its file
abbrev pub is_past_end_of : Option FileInfo → ℕ → Bool
is_past_end_of None page = true
is_past_end_of (Some info) page = nat_le info.length (4096 * page)

-- whether a file may only be read
abbrev pub is_unwritable : Option FileInfo → Bool
is_unwritable None = false
is_unwritable (Some info) = info.read_only

-- how many bytes of a page lie inside a file of so many bytes
abbrev pub bytes_inside : ℕ → ℕ → ℕ
bytes_inside length page = min 4096 (length - 4096 * page)

-- how many bytes of a page lie inside its file
abbrev pub inside_of : Option FileInfo → ℕ → ℕ
inside_of None page = 0
inside_of (Some info) page = bytes_inside info.length page

-- a page with zeros from byte n on
abbrev pub cut : ℕ → List ℕ → List ℕ
cut n page = take n page ++ replicate (4096 - n) 0

-- a page with zeros past the end of its file: mmap(2), "the remaining bytes in the partial page at the end of the mapping are zeroed"
abbrev pub trimmed : Files → ℕ → ℕ → List ℕ → List ℕ
trimmed files file page bytes = cut (inside_of (files file) page) bytes

-- these pages with one of them replaced
abbrev pub with_page : Pages → ℕ → ℕ → List ℕ → Pages
with_page pages file page bytes = λ f k. if f == file && k == page then bytes else pages f k

-- of 5,000 bytes, page 1 has 904 inside, and page 2 is past the end
pub partial_page : inside_of (Some (record { length = 5000; read_only = false })) 1 ≡ 904
partial_page = refl

pub past_the_end : is_past_end_of (Some (record { length = 5000; read_only = false })) 2 ≡ true
past_the_end = refl
