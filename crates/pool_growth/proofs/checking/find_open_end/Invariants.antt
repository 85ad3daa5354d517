use Rattle.std.proofs.Common.{ℕ, ◌<◌}
use Rattle.growth.specs.declared.changes.Change.{Change}
use Rattle.pool_growth.proofs.Checked.{EndsAt}
use Rattle.pool_growth.proofs.checking.find_open_end.Given as goal

abbrev pub invariant-loop-change : goal.invariant-loop-change
invariant-loop-change l = (i : ℕ) (d : Change) → i < l.change-index → EndsAt l.directory l.asked.changes.now l.asked.pages.now i d
