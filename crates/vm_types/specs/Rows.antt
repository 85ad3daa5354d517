-- Rows of neighbouring pages, and what the calls on ranges do to a map from page to attributes. mmap(2) with
-- MAP_FIXED, munmap(2), mprotect(2).
use Rattle.std.specs.Prelude.{ℕ, suc, zero, ◌+◌, ◌-◌, Bool, true, ◌&&◌, leb, ltb, if◌then◌else◌, ◌≤◌, ◌<◌, Option, Some, None, is_some, option_map, IsSome, IfSome}
use Rattle.vm_types.specs.Limits.{user_start, user_end}
use Rattle.vm_types.specs.declared.permission.Prot.{Prot}
use Rattle.vm_types.specs.declared.region.Attr.{Attr}
use Rattle.vm_types.specs.Attributes.{attr_after, backing_fits, with_prot}

-- whether a page is one of the row of count pages from first on
abbrev pub in_row : ℕ → ℕ → ℕ → Bool
in_row first count page = leb first page && ltb page (first + count)

-- the pages of the row are new ones, the file pages rising from the first one's
abbrev pub replaced : (ℕ → Option Attr) → ℕ → ℕ → Attr → ℕ → Option Attr
replaced map first count attr page = if in_row first count page then Some (attr_after attr (page - first)) else map page

-- the pages of the row are mapped no more
abbrev pub removed : (ℕ → Option Attr) → ℕ → ℕ → ℕ → Option Attr
removed map first count page = if in_row first count page then None else map page

-- those pages of the row that are mapped get the permission
abbrev pub protected : (ℕ → Option Attr) → ℕ → ℕ → Prot → ℕ → Option Attr
protected map first count prot page =
    if in_row first count page then option_map (with_prot prot) (map page) else map page

-- whether each page of the row is mapped
unfoldable pub is_covered : (ℕ → Option Attr) → ℕ → ℕ → Bool
is_covered map first zero = true
is_covered map first (suc count) = is_some (map (first + count)) && is_covered map first count

-- only user pages of the mode are mapped, and file pages are under 2 ^ 32
pub record IsUserMap (mode : ℕ) (map : ℕ → Option Attr) : Type 0 where
  pub user_pages : (page : ℕ) → IsSome (map page) → (user_start ≤ page) × (page < user_end mode)
  pub file_pages : (page : ℕ) → IfSome (map page) (λ attr. backing_fits attr.backing 1)
