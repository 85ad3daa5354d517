use Rattle.page_tables.{proofs.Names.{top_level, ◌≡◌, ◌≤◌, ◌<◌, ◌+◌, ◌⊎◌, index_of}, specs.Tree.{IsTable, Points, last_table}}
use Rattle.page_tables.proofs.tables.end_of_way.Given as goal

-- what is left of the way ends where the whole way does
abbrev pub invariant-loop-level : goal.invariant-loop-level
invariant-loop-level g l =
    (l.level ≤ top_level g.M.Levels.mode) × IsTable l.frames l.table.0 × (last_table l.frames l.fn.page l.level l.table.0 ≡ last_table l.frames l.fn.page (top_level g.M.Levels.mode) l.fn.root.0)
    × ((l.table.0 ≡ l.fn.root.0) ⊎ ((l.level < top_level g.M.Levels.mode) × Points l.frames l.parent.0 (index_of l.fn.page (l.level + 1)) l.table.0)) × (l.level ≤ 3)

abbrev pub decreases-loop-level : goal.decreases-loop-level
decreases-loop-level g l = l.level
