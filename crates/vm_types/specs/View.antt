-- One page of a process: what it may do, what stands behind it, and perhaps a copy of its own.
-- mmap(2): MAP_ANONYMOUS, MAP_PRIVATE, MAP_SHARED.
use Rattle.std.specs.Prelude.{ℕ, List, Option, replicate}
use Rattle.std.specs.Option.{option_map}
use Rattle.vm_types.specs.declared.region.Attr.{Attr}

-- the bytes of each page of each file: file, page, 4,096 bytes
abbrev pub Pages : Type 0
Pages = ℕ → ℕ → List ℕ

-- the bytes of those pages of objects that were stored to: object, page, 4,096 bytes
abbrev pub Objects : Type 0
Objects = ℕ → ℕ → Option (List ℕ)

-- A mapped page: its permission and backing, and the bytes that its process alone sees, where it has such.
pub record View : Type 0 where
  pub attr : Attr
  pub own : Option (List ℕ)

-- a page of zeros
unfoldable pub zero_page : List ℕ
zero_page = replicate 4096 0

-- the attributes of the mapped pages
abbrev pub attrs_of : (ℕ → Option View) → ℕ → Option Attr
attrs_of space page = option_map (λ view. view.attr) (space page)
