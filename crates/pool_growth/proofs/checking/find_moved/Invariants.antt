use Rattle.std.proofs.Common.{ℕ, ◌<◌, get_or}
use Rattle.growth.specs.declared.changes.Change.{Change}
use Rattle.pool_growth.specs.Checks.{HasKeptHomes}
use Rattle.pool_store.specs.Store.{entry_of}
use Rattle.pool_growth.proofs.checking.find_moved.Given as goal

abbrev pub invariant-loop-change : goal.invariant-loop-change
invariant-loop-change l = (i : ℕ) (d : Change) → i < l.change-index → HasKeptHomes (entry_of l.directory (get_or l.changes i d).file) (get_or l.changes i d).entry
