use Rattle.std.proofs.Common.{ℕ, ◌<◌, get_or}
use Rattle.vm_types.specs.declared.file.FilePage.{FilePage}
use Rattle.pool_growth.specs.Checks.{IsKeptPage}
use Rattle.pool_growth.proofs.checking.find_outside.Given as goal

abbrev pub invariant-loop-page : goal.invariant-loop-page
invariant-loop-page l = (i : ℕ) (d : FilePage) → i < l.page-index → IsKeptPage l.directory l.asked.changes.now (get_or l.asked.pages.now i d)
