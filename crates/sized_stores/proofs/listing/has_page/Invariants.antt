use Rattle.std.proofs.Common.{◌≡◌, ◌<◌, ℕ, Some}
use Rattle.std.specs.List.{slice_get}
use Rattle.vm_types.specs.declared.file.FilePage.{FilePage}
use Rattle.sized_stores.proofs.listing.has_page.Given as goal

-- none of the pages before this one is the one that is looked for
abbrev pub invariant-loop-other : goal.invariant-loop-other
invariant-loop-other l = (i : ℕ) (p : FilePage) → i < l.other-index → slice_get l.pages i ≡ Some p → p ≡ l.page → ⊥
