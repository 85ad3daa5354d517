use Rattle.std.proofs.Common.{ℕ, ◌<◌, get_or}
use Rattle.growth.specs.declared.changes.Change.{Change}
use Rattle.pool_growth.specs.Checks.{IsSmallChange}
use Rattle.pool_growth.proofs.checking.find_large.Given as goal

abbrev pub invariant-loop-change : goal.invariant-loop-change
invariant-loop-change l = (i : ℕ) (d : Change) → i < l.change-index → IsSmallChange (get_or l.changes i d)
