-- Objects of shared anonymous memory: which of their pages processes have, and which object is a new one. mmap(2):
-- MAP_ANONYMOUS with MAP_SHARED. That the least free number is taken is our choice.
use Rattle.std.specs.Prelude.{ℕ, zero, suc, ◌+◌, Bool, false, ◌==◌, ◌&&◌, if◌then◌else◌, Option, Some, None, List}
use Rattle.vm_types.specs.Counting.{any_below}
use Rattle.vm_types.specs.Limits.{named_limit, widest_end}
use Rattle.vm_types.specs.declared.region.Attr.{Attr}
use Rattle.vm_types.specs.declared.region.Backing.{Backing}
use Rattle.vm_types.specs.declared.region.Backing.TheVariants.{Anon, Private, Shared, Common}
use Rattle.vm_types.specs.View.{Objects, View, attrs_of}

-- what each page of each process is: process, page
abbrev pub Maps : Type 0
Maps = ℕ → ℕ → Option Attr

abbrev pub maps_of : (ℕ → ℕ → Option View) → Maps
maps_of views pid = attrs_of (views pid)

-- whether that is this page of an object
abbrev pub is_object_page : Backing → ℕ → ℕ → Bool
is_object_page (Common p) object page = (p.object == object) && (p.page == page)
is_object_page Anon object page = false
is_object_page (Private p) object page = false
is_object_page (Shared p) object page = false

-- whether that is a page of the object
abbrev pub is_of_object : Backing → ℕ → Bool
is_of_object (Common p) object = p.object == object
is_of_object Anon object = false
is_of_object (Private p) object = false
is_of_object (Shared p) object = false

-- whether a page of a process names that page of an object
abbrev pub names : Option Attr → ℕ → ℕ → Bool
names None object page = false
names (Some attr) object page = is_object_page attr.backing object page

-- whether a page of a process names a page of the object
abbrev pub uses : Option Attr → ℕ → Bool
uses None object = false
uses (Some attr) object = is_of_object attr.backing object

-- whether some page of some process does, in any mode
unfoldable pub is_named : Maps → ℕ → ℕ → Bool
is_named maps object page = any_below (λ pid. any_below (λ k. names (maps pid k) object page) widest_end) 65

unfoldable pub is_used : Maps → ℕ → Bool
is_used maps object = any_below (λ pid. any_below (λ k. uses (maps pid k) object) widest_end) 65

-- the bytes of those pages that a process still names: what none names is gone
abbrev pub named_objects : Maps → Objects → Objects
named_objects maps objects = λ object page. if is_named maps object page then objects object page else None

-- the least of so many numbers from this one on that doesn't pass, or else the one after them
unfoldable pub least_from : (ℕ → Bool) → ℕ → ℕ → ℕ
least_from passes n zero = n
least_from passes n (suc count) = if passes n then least_from passes (n + 1) count else n

-- the least number of an object of which no process has a page
abbrev pub free_object : Maps → ℕ
free_object maps = least_from (is_used maps) 0 named_limit

-- these pages with one of them written
abbrev pub with_object : Objects → ℕ → ℕ → List ℕ → Objects
with_object objects object page bytes = λ o k. if o == object && k == page then Some bytes else objects o k
