use Rattle.page_tables.{proofs.Names.{top_level, ◌-◌}, specs.{Change.{Prunes}, Tree.{IsForest, IsRoot, missing_of}}}
use Rattle.page_tables.proofs.tables.prune.Given as goal

abbrev pub invariant-loop-root : goal.invariant-loop-root
invariant-loop-root g l = IsForest l.frames × IsRoot (top_level g.M.Levels.mode) l.frames l.root.0 × Prunes l.initial.frames l.frames (top_level g.M.Levels.mode) l.root.0 l.page

abbrev pub decreases-loop-root : goal.decreases-loop-root
decreases-loop-root g l = top_level g.M.Levels.mode - missing_of l.frames (top_level g.M.Levels.mode) l.root.0 l.page
