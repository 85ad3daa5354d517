-- A map in which each page that may be written may be read as well. mmap(2): some processors let no page be written
-- that can't be read; that pages are kept so is our choice.
use Rattle.std.specs.Prelude.{◌≡◌, ℕ, true, Option, IfSome}
use Rattle.vm_types.specs.declared.permission.Prot.{Prot}
use Rattle.vm_types.specs.declared.region.Attr.{Attr}
use Rattle.vm_types.specs.Permission.{can_read, can_write}

-- whether a permission to write is one to read too
abbrev pub ReadsToo : Prot → Type 0
ReadsToo prot = can_write prot ≡ true → can_read prot ≡ true

abbrev pub IsReadableMap : (ℕ → Option Attr) → Type 0
IsReadableMap map = (page : ℕ) → IfSome (map page) (λ attr. ReadsToo attr.prot)
