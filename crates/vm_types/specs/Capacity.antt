-- How much memory and swap a state needs. A table has 512 entries: in three levels (Sv39) or four (Sv48).
use Rattle.std.specs.Prelude.{ℕ, zero, suc, ◌+◌, ◌*◌, ◌/◌, ◌^◌, Bool, false, if◌then◌else◌, Option, Some, None, is_some}
use Rattle.vm_types.specs.Limits.{top_level, table_entries, user_end, widest_end, file_limit, file_page_limit, object_limit}
use Rattle.vm_types.specs.Counting.{any_below, count_below, sum_below}
use Rattle.vm_types.specs.State.{State}
use Rattle.vm_types.specs.View.{View}

-- how many of the first rows of so many pages have a mapped page
abbrev pub used_rows : (ℕ → Option View) → ℕ → ℕ → ℕ
used_rows space pages rows = count_below (λ row. any_below (λ i. is_some (space (pages * row + i))) pages) rows

-- the tables below the level from which on no more is counted: one of level k for each 512 ^ (k + 1) pages with a mapped one
abbrev pub tables_below : ℕ → (ℕ → Option View) → ℕ → ℕ
tables_below mode space zero = 0
tables_below mode space (suc level) =
    used_rows space (table_entries ^ suc level) (user_end mode / table_entries ^ suc level) + tables_below mode space level

-- the tables of a process: its root, and one for each 2 ^ 18 and each 2 ^ 9 pages with a mapped one, in Sv48 for each 2 ^ 27 too
abbrev pub tables_of : ℕ → (ℕ → Option View) → ℕ
tables_of mode space = 1 + tables_below mode space (top_level mode)

-- the tables of all processes
unfoldable pub table_count : State → ℕ
table_count s = sum_below (λ pid. if s.live pid then tables_of s.mode (s.views pid) else 0) 65

-- whether a page has a copy of its own
abbrev pub has_own : Option View → Bool
has_own None = false
has_own (Some view) = is_some view.own

-- no object has more pages than a process can map
abbrev pub object_page_limit : ℕ
object_page_limit = widest_end

-- the own copies of all processes, the touched file pages, and the pages of objects
unfoldable pub held_count : State → ℕ
held_count s =
    sum_below (λ pid. count_below (λ page. has_own (s.views pid page)) (user_end s.mode)) 65
    + sum_below (λ file. count_below (s.touched file) file_page_limit) file_limit
    + sum_below (λ object. count_below (λ page. is_some (s.objects object page)) object_page_limit) object_limit
