-- What an access that is fine reads and writes. Numbers are little-endian.
use Rattle.std.specs.Prelude.{ℕ, ◌≡◌, refl, [], ◌∷◌, Bool, ◌%◌, ◌/◌, ◌==◌, ◌&&◌, ◌||◌, List, ◌++◌, take, drop, Some}
use Rattle.byteorder.specs.Endian.{little_number, little_bytes}
use Rattle.vm_types.specs.declared.region.Backing.{Backing}
use Rattle.vm_types.specs.declared.region.Backing.TheVariants.{Anon, Private, Shared, Common}
use Rattle.vm_types.specs.Files.{with_page}
use Rattle.vm_types.specs.Objects.{with_object}
use Rattle.vm_types.specs.State.{State, shown, with_view}
use Rattle.vm_types.specs.View.{View}

-- the number that width bytes of a page hold from byte `at` on
abbrev pub loaded : List ℕ → ℕ → ℕ → ℕ
loaded page at width = little_number width (drop at page)

-- a page with a number of width bytes written from byte `at` on
abbrev pub with_number : List ℕ → ℕ → ℕ → ℕ → List ℕ
with_number page at width value = take at page ++ (little_bytes width value ++ drop width (drop at page))

-- the touched file pages with one more
abbrev pub with_touched : State → ℕ → ℕ → ℕ → ℕ → Bool
with_touched s file page = λ f k. (f == file && k == page) || s.touched f k

-- the state with these bytes as the page of a process: mmap(2), a store through MAP_SHARED is seen by all mappings of the file
-- page, or of the page of the object, any other by its process alone
abbrev pub with_shown_bytes : State → ℕ → ℕ → View → Backing → List ℕ → State
with_shown_bytes s pid page view (Shared p) bytes =
    record s { volatile = with_page s.volatile p.file p.page bytes; touched = with_touched s p.file p.page }
with_shown_bytes s pid page view (Common p) bytes = record s { objects = with_object s.objects p.object p.page bytes }
with_shown_bytes s pid page view (Private p) bytes = record s { views = with_view s.views pid page (record view { own = Some bytes }) }
with_shown_bytes s pid page view Anon bytes = record s { views = with_view s.views pid page (record view { own = Some bytes }) }

-- the state after a store to that page of that process
abbrev pub stored : State → ℕ → ℕ → View → ℕ → ℕ → State
stored s pid addr view width value =
    with_shown_bytes s pid (addr / 4096) view view.attr.backing (with_number (shown s view) (addr % 4096) width value)

-- the lowest byte stands first
pub lowest_first : loaded (136 ∷ 119 ∷ 102 ∷ 85 ∷ 68 ∷ 51 ∷ 34 ∷ 17 ∷ []) 2 2 ≡ 0x5566
lowest_first = refl

pub written : with_number (1 ∷ 2 ∷ 3 ∷ 4 ∷ []) 1 2 0x1122 ≡ 1 ∷ 0x22 ∷ 0x11 ∷ 4 ∷ []
written = refl
