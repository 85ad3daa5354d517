-- The pages of a process by its runs.
use Rattle.std.specs.Prelude.{ℕ, List, Option, option_map}
use Rattle.regions.specs.declared.run.Run.{Run}
use Rattle.regions.specs.RunList.{attr_at}
use Rattle.ranges.specs.Rows.{plain}
use Rattle.vm_types.specs.View.{View}

-- the pages of a process with these runs, had it no copies
abbrev pub space_of : List Run → ℕ → Option View
space_of runs page = option_map plain (attr_at runs page)
