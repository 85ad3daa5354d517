use Rattle.std.proofs.Common.{ℕ, ◌≡◌, ◌<◌, Some, slice_get}
use Rattle.vm_types.specs.declared.file.FilePage.{FilePage}
use Rattle.pool_growth.proofs.checking.is_listed.Given as goal

abbrev pub invariant-loop-listed : goal.invariant-loop-listed
invariant-loop-listed l = (i : ℕ) (p : FilePage) → i < l.listed-index → slice_get l.pages i ≡ Some p → p.file ≡ l.file → p.page ≡ l.page → ⊥
