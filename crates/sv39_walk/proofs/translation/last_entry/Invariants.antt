use Rattle.{std.proofs.Common.{◌≡◌, ◌≤◌}, frames.specs.FrameTable.{IsFrame}, vm_types.specs.Limits.{top_level}, sv39_walk.specs.Walk.{last_of}}
use Rattle.sv39_walk.proofs.translation.last_entry.Given as goal

-- what is left of the way ends where the whole way does
abbrev pub invariant-loop-level : goal.invariant-loop-level
invariant-loop-level g l = (l.level ≤ 3) × IsFrame l.frames l.table.0 × (last_of l.frames l.page l.level l.table.0 ≡ last_of l.frames l.page (top_level g.M.Levels.mode) l.fn.root.0)

abbrev pub decreases-loop-level : goal.decreases-loop-level
decreases-loop-level g l = l.level
