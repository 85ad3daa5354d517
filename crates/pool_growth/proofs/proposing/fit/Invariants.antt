use Rattle.std.proofs.Common.{ℕ, ◌<◌, get_or}
use Rattle.pool_growth.specs.Sizes.{IsSizeFor}
use Rattle.pool_growth.specs.declared.sizes.FileSize.{FileSize}
use Rattle.pool_growth.proofs.proposing.fit.Given as goal

abbrev pub invariant-loop-size : goal.invariant-loop-size
invariant-loop-size l = (i : ℕ) (d : FileSize) → i < l.size-index → IsSizeFor l.entries (get_or l.sizes i d)
