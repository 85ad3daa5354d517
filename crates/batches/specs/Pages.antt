-- Which pages a batch may bring.
use Rattle.std.specs.Prelude.{ℕ, ◌+◌, ◌*◌, ◌^◌, ◌<◌, ◌≡◌, List, [], slice_get, slice_index_or, Option, Some, IsTrue}
use Rattle.vm_types.specs.declared.file.FileInfo.{FileInfo}
use Rattle.vm_types.specs.declared.file.FilePage.{FilePage}

-- file f may only be read
pub record IsReadOnly (files : ℕ → Option FileInfo) (f : ℕ) : Type 0 where
  pub info : FileInfo
  pub is : files f ≡ Some info
  pub read_only : IsTrue info.read_only

-- some page of the list is one of a file that may only be read
pub record HasReadOnly (files : ℕ → Option FileInfo) (list : List FilePage) : Type 0 where
  pub place : ℕ
  pub page : FilePage
  pub listed : slice_get list place ≡ Some page
  pub file : IsReadOnly files page.file

-- none of the first n pages of the list is listed twice
abbrev pub AreDistinct : ℕ → List FilePage → Type 0
AreDistinct n list = (i j : ℕ) (p : FilePage) → i < j → j < n → slice_get list i ≡ Some p → slice_get list j ≡ Some p → ⊥

-- the place of a page in the order by file, then by page
unfoldable pub place_of : FilePage → ℕ
place_of p = 2 ^ 32 * p.file + p.page

-- the first n pages of the list stand in that order
abbrev pub AreRising : ℕ → List FilePage → Type 0
AreRising n list = (i j : ℕ) (p q : FilePage) → i < j → j < n → slice_get list i ≡ Some p → slice_get list j ≡ Some q → place_of p < place_of q

-- the bytes of page i of the list
abbrev pub given_page : List (List ℕ) → ℕ → List ℕ
given_page pages i = slice_index_or pages i []
