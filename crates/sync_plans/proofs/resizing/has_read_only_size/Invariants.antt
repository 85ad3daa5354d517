use Rattle.sync_plans.{proofs.Names.{ℕ, ◌<◌, ◌≡◌, Some, slice_get, info_by}, specs.Resizing.{IsReadOnlyIn}}
use Rattle.pool_growth.specs.declared.sizes.FileSize.{FileSize}
use Rattle.sync_plans.proofs.resizing.has_read_only_size.Given as goal

abbrev pub invariant-loop-size : goal.invariant-loop-size
invariant-loop-size l = (j : ℕ) (s : FileSize) → j < l.size-index → slice_get l.sizes j ≡ Some s → IsReadOnlyIn (info_by l.directory) s.file → ⊥
