use Rattle.std.proofs.Common.{ℕ, ◌≡◌, ◌<◌, slice_get, Some}
use Rattle.directories.specs.Layouts.{ShareHome}
use Rattle.directories.specs.declared.entry.Extent.{Extent}
use Rattle.growth.proofs.extents.find_meeting.Given as goal

abbrev pub invariant-loop-other : goal.invariant-loop-other
invariant-loop-other l = (j : ℕ) (y : Extent) → j < l.other-index → slice_get l.extents j ≡ Some y → ShareHome l.extent y → ⊥
