use Rattle.{std.proofs.Common.{◌≡◌, ◌<◌, ℕ, Some, slice_get}, vm_types.specs.declared.file.FilePage.{FilePage}, stores.specs.Store.{files_of}, batches.specs.Pages.{IsReadOnly}}
use Rattle.batches.proofs.pages.has_read_only.Given as goal

abbrev pub invariant-loop-page : goal.invariant-loop-page
invariant-loop-page g l = (j : ℕ) (p : FilePage) → j < l.page-index → slice_get l.pages j ≡ Some p → IsReadOnly (files_of l.store) p.file → ⊥
