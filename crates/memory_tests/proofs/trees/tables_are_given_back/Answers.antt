use Rattle.std.proofs.Common.{sym, subst}
use Rattle.vm_types.specs.Limits.{top_level}
use Rattle.frames.specs.FrameTable.{FrameTable}
use Rattle.page_tables.specs.Tree.{IsRoot}
use Rattle.memory_tests.proofs.trees.tables_are_given_back.Goals as goal

pub missing_tables-requires-2-clause-root : goal.missing_tables-requires-2-clause-root
missing_tables-requires-2-clause-root g c =
    let P : FrameTable → Type 0 = λ t. IsRoot (top_level g.M.Levels.mode) t c.in_ok-tree.tree.root.0 in
    c.prune.ensures.prunes.roots c.in_ok-tree.tree.root.0 (subst P (sym c.walk_twice-2.ensures) c.clear.ensures.root)

pub walk_twice-requires-3-clause-root : goal.walk_twice-requires-3-clause-root
walk_twice-requires-3-clause-root g c =
    let P : FrameTable → Type 0 = λ t. IsRoot (top_level g.M.Levels.mode) t c.in_ok-tree.tree.root.0 in
    c.prune.ensures.prunes.roots c.in_ok-tree.tree.root.0 (subst P (sym c.walk_twice-2.ensures) c.clear.ensures.root)
