use Rattle.sync_plans.{proofs.Names.{ℕ, ◌<◌, ◌≡◌, FilePage, Some, slice_get, info_by}, specs.Resizing.{IsReadOnlyIn}}
use Rattle.sync_plans.proofs.resizing.has_read_only_page.Given as goal

abbrev pub invariant-loop-page : goal.invariant-loop-page
invariant-loop-page l = (j : ℕ) (p : FilePage) → j < l.page-index → slice_get l.pages j ≡ Some p → IsReadOnlyIn (info_by l.directory) p.file → ⊥
