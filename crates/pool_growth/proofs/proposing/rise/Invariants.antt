use Rattle.std.proofs.Common.{ℕ, ◌<◌, ◌+◌, get_or}
use Rattle.pool_growth.specs.declared.sizes.FileSize.{FileSize}
use Rattle.pool_growth.proofs.proposing.rise.Given as goal

abbrev pub invariant-loop-i : goal.invariant-loop-i
invariant-loop-i l = (j : ℕ) (d : FileSize) → j + 1 < l.i → (get_or l.sizes j d).file < (get_or l.sizes (j + 1) d).file
