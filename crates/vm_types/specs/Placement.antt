-- Where a mapping goes. mmap(2): an address that isn't fixed is a hint about where to place the mapping; which
-- place is taken is our choice.
use Rattle.std.specs.Prelude.{ℕ, ◌≡◌, refl, suc, zero, ◌+◌, ◌/◌, Bool, true, false, not, ◌==◌, ◌&&◌, leb, if◌then◌else◌, Option, Some, None, is_none}
use Rattle.vm_types.specs.Limits.{user_start, user_end}
use Rattle.vm_types.specs.declared.region.Attr.{Attr}

-- whether no page of the row of count pages from first on is mapped
unfoldable pub is_free : (ℕ → Option Attr) → ℕ → ℕ → Bool
is_free map first zero = true
is_free map first (suc count) = is_none (map (first + count)) && is_free map first count

-- whether the whole row is in the user pages of the mode, and free
unfoldable pub is_place : ℕ → (ℕ → Option Attr) → ℕ → ℕ → Bool
is_place mode map count first = leb user_start first && (leb (first + count) (user_end mode) && is_free map first count)

-- whether the whole row is in the user pages
abbrev pub in_user_pages : ℕ → ℕ → ℕ → Bool
in_user_pages mode first count = leb user_start first && leb (first + count) (user_end mode)

-- the place of a mapping that must be at its address, whatever is mapped there
abbrev pub fixed_place : ℕ → ℕ → ℕ → Option ℕ
fixed_place mode address count = if in_user_pages mode (address / 4096) count then Some (address / 4096) else None

-- the lowest of so many pages from first on where a row of count pages fits
unfoldable pub lowest_from : ℕ → (ℕ → Option Attr) → ℕ → ℕ → ℕ → Option ℕ
lowest_from mode map count first zero = None
lowest_from mode map count first (suc pages) =
    elim (is_place mode map count first) [ true ↦ Some first | false ↦ lowest_from mode map count (suc first) pages ]

-- the lowest page where a row of count pages fits
unfoldable pub lowest_place : ℕ → (ℕ → Option Attr) → ℕ → Option ℕ
lowest_place mode map count = lowest_from mode map count user_start (user_end mode)

-- the place of a mapping of count pages: the hint's page, where the hint isn't 0 and the row fits there, else the
-- lowest page where it fits
unfoldable pub placed : ℕ → (ℕ → Option Attr) → ℕ → ℕ → Option ℕ
placed mode map address count =
    if not (address == 0) && is_place mode map count (address / 4096) then Some (address / 4096) else lowest_place mode map count

-- page 1 is no user page, page 32 is one
pub below_the_user_pages : fixed_place 39 4096 1 ≡ None
unfolding user_end
below_the_user_pages = refl

pub at_its_address : fixed_place 39 131072 5 ≡ Some 32
unfolding user_end
at_its_address = refl

-- the last page of Sv48, which is none of Sv39, and one past it
pub last_page : fixed_place 48 140737488351232 1 ≡ Some 34359738367
unfolding user_end
last_page = refl

pub past_the_lower_half : fixed_place 39 140737488351232 1 ≡ None
unfolding user_end
past_the_lower_half = refl

pub past_the_last_page : fixed_place 48 140737488355328 1 ≡ None
unfolding user_end
past_the_last_page = refl
