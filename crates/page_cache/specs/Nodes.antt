-- Which node holds which page of a file or an object. A node is named by its number, and holds at most one page.
use Rattle.std.specs.Prelude.{◌≡◌, ℕ, ◌+◌, Bool, false, if◌then◌else◌, List, [], ◌∷◌, Option, Some, None, slice_index_or}
use Rattle.vm_types.specs.declared.object.PageKey.{PageKey}
use Rattle.vm_types.specs.Attributes.{page_key_eq}

-- what the node holds; nothing past the last node
abbrev pub page_at : List (Option PageKey) → ℕ → Option PageKey
page_at pages n = slice_index_or pages n None

-- whether this is the page that a node holds
abbrev pub holds : PageKey → Option PageKey → Bool
holds page None = false
holds page (Some held) = page_key_eq held page

abbrev pub next_number : Option ℕ → Option ℕ
next_number None = None
next_number (Some n) = Some (n + 1)

-- the first node that holds the page
unfoldable pub first_node : List (Option PageKey) → PageKey → Option ℕ
first_node [] page = None
first_node (held ∷ rest) page = if holds page held then Some 0 else next_number (first_node rest page)

-- no two nodes hold one page
pub record IsOneToOne (pages : List (Option PageKey)) : Type 0 where
  pub apart : (m n : ℕ) (page : PageKey) → page_at pages m ≡ Some page → page_at pages n ≡ Some page → m ≡ n
