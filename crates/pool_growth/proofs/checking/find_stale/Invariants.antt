use Rattle.std.proofs.Common.{ℕ, ◌<◌, get_or}
use Rattle.vm_types.specs.declared.file.FilePage.{FilePage}
use Rattle.pool_growth.specs.Files.{IsNewPage}
use Rattle.pool_store.specs.Store.{info_by}
use Rattle.pool_growth.proofs.checking.find_stale.Given as goal

abbrev pub invariant-loop-page : goal.invariant-loop-page
invariant-loop-page l = (i : ℕ) (d : FilePage) → i < l.page-index → IsNewPage (info_by l.directory) l.asked.changes.now (get_or l.asked.fresh.now i d).file (get_or l.asked.fresh.now i d).page
