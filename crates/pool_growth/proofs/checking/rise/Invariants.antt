use Rattle.std.proofs.Common.{ℕ, ◌<◌, ◌+◌, get_or}
use Rattle.vm_types.specs.declared.file.FilePage.{FilePage}
use Rattle.pool_growth.specs.Checks.{PrecedesPage}
use Rattle.pool_growth.proofs.checking.rise.Given as goal

abbrev pub invariant-loop-i : goal.invariant-loop-i
invariant-loop-i l = (j : ℕ) (d : FilePage) → j + 1 < l.i → PrecedesPage (get_or l.pages j d) (get_or l.pages (j + 1) d)
