-- Pages of a commit of lengths, as a source gives them.
use Rattle.std.specs.Prelude.{ℕ, ◌-◌, ◌≡◌, List, length, slice_get, Option, Some, None, nat_lt, if◌then◌else◌}
use Rattle.vm_types.specs.View.{zero_page}

-- in which place of a source's list page k stands: of new ones, and then of others; none where it is zeros
abbrev pub place_of : List ℕ → List ℕ → ℕ → Option ℕ
place_of fresh kept k = if nat_lt k (length fresh) then slice_get fresh k else slice_get kept (k - length fresh)

-- the page
abbrev pub page_in : (ℕ → List ℕ) → Option ℕ → List ℕ
page_in pages None = zero_page
page_in pages (Some place) = pages place

abbrev pub given_page : List ℕ → List ℕ → (ℕ → List ℕ) → ℕ → List ℕ
given_page fresh kept pages k = page_in pages (place_of fresh kept k)

-- it is zeros, or the source gives it
abbrev pub IsGivenPlace : List ℕ → List ℕ → (ℕ → Type 0) → ℕ → Type 0
IsGivenPlace fresh kept Gives k = (place : ℕ) → place_of fresh kept k ≡ Some place → Gives place
