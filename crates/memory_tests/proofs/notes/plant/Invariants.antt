use Rattle.std.proofs.Common.{ℕ}
use Rattle.vm_types.specs.Limits.{top_level}
use Rattle.page_tables.specs.Tree.{IsForest, IsRoot}
use Rattle.memory_tests.proofs.notes.plant.Given as goal

abbrev pub invariant-loop-level : goal.invariant-loop-level
invariant-loop-level g l = record {
  forest : IsForest l.memory;
  root : IsRoot (top_level g.M.Levels.mode) l.memory l.root.0;
  others : (r : ℕ) → IsRoot (top_level g.M.Levels.mode) l.fn.memory r → IsRoot (top_level g.M.Levels.mode) l.memory r;
}
