-- Runs: the longest rows of neighbouring mapped pages with equal permission and equal backing, where file pages
-- follow one another. proc_pid_maps(5) shows such rows, and mmap(2) limits their number (ENOMEM).
use Rattle.std.specs.Prelude.{ℕ, suc, zero, ◌+◌, Bool, false, not, if◌then◌else◌, Option, Some, None}
use Rattle.vm_types.specs.Limits.{user_end}
use Rattle.vm_types.specs.declared.region.Attr.{Attr}
use Rattle.vm_types.specs.Attributes.{attr_after, attr_eq}

-- whether a page goes on where the page before it was
abbrev pub continues : Option Attr → Attr → Bool
continues None attr = false
continues (Some before) attr = attr_eq (attr_after before 1) attr

-- whether a run begins at a page, given the page before it
abbrev pub begins : Option Attr → Option Attr → Bool
begins before None = false
begins before (Some attr) = not (continues before attr)

-- whether a run of the map begins at the page
abbrev pub begins_run : (ℕ → Option Attr) → ℕ → Bool
begins_run map zero = begins None (map zero)
begins_run map (suc page) = begins (map page) (map (suc page))

-- how many runs begin below the page
unfoldable pub runs_below : (ℕ → Option Attr) → ℕ → ℕ
runs_below map zero = 0
runs_below map (suc page) = if begins_run map page then runs_below map page + 1 else runs_below map page

-- how many runs the map of user pages has
unfoldable pub run_count : ℕ → (ℕ → Option Attr) → ℕ
run_count mode map = runs_below map (user_end mode)
