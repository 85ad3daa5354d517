use Rattle.std.proofs.Common.{◌<◌}
use Rattle.vm_types.specs.Limits.{top_level, user_end}
use Rattle.page_tables.specs.Tree.{IsForest, IsRoot}
use Rattle.memory_tests.proofs.trees.entries_stand.Given as goal

abbrev pub invariant-loop-entry : goal.invariant-loop-entry
invariant-loop-entry g l = record {
  forest : IsForest l.tree.memory;
  root : IsRoot (top_level g.M.Levels.mode) l.tree.memory l.tree.root.0;
  user : l.tree.page < user_end g.M.Levels.mode;
}
