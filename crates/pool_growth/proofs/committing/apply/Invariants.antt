use Rattle.std.proofs.Common.{◌≡◌}
use Rattle.pool_growth.proofs.Applied.{AreAfter}
use Rattle.pool_growth.proofs.committing.apply.Given as goal

-- the changes before this one are made
abbrev pub invariant-loop-change : goal.invariant-loop-change
invariant-loop-change l = AreAfter l.fn.directory.entries.items l.changes l.change-index l.directory.entries.items × (l.directory.pages ≡ l.fn.directory.pages)
