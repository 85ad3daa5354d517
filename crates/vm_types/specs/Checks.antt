-- The checks of a call, in their order, and the rows of pages that calls name.
use Rattle.std.specs.Prelude.{ℕ, ◌≡◌, refl, ◌+◌, ◌-◌, ◌/◌, Bool, if◌then◌else◌, List, [], ◌∷◌, Option, Some, None}
use Rattle.vm_types.specs.declared.refusal.Errno.{Errno}

-- a test, and the error that it gives where it holds
abbrev pub Check : Type 0
Check = Bool × Errno

-- the error of the first check that holds
abbrev pub first_of : List Check → Option Errno
first_of [] = None
first_of (check ∷ checks) = if check.0 then Some check.1 else first_of checks

-- how many pages hold that many bytes
abbrev pub page_count : ℕ → ℕ
page_count len = (len + 4095) / 4096

-- how many pages the bytes from addr on touch: from addr's page up to, not including, the end rounded up
abbrev pub pages_from : ℕ → ℕ → ℕ
pages_from addr len = page_count (addr + len) - addr / 4096

-- a byte takes a page, and the last byte of one and the first of the next touch two
pub one_byte : page_count 1 ≡ 1
one_byte = refl

pub two_pages : pages_from 69631 2 ≡ 2
two_pages = refl
