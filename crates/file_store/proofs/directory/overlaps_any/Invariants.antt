use Rattle.file_store.{proofs.Names.{◌≡◌, ℕ, ◌<◌, get_or, Some, None}, specs.{Directory.{IsHomeOf}, declared.directory.Entry.{Entry}}}
use Rattle.file_store.proofs.directory.overlaps_any.Given as goal

abbrev pub invariant-loop-other : goal.invariant-loop-other
invariant-loop-other l = (f h : ℕ) (a : Entry) → f < l.other-index → get_or l.entries f None ≡ Some a → IsHomeOf a h → IsHomeOf l.entry h → ⊥
