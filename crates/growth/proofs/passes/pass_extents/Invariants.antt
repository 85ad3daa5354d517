use Rattle.std.proofs.Common.{◌≡◌, slice_get, Some}
use Rattle.growth.specs.Room.{PassesOver}
use Rattle.growth.proofs.Passed.{Front}
use Rattle.growth.proofs.passes.pass_extents.Given as goal

abbrev pub invariant-loop-extent : goal.invariant-loop-extent
invariant-loop-extent l = PassesOver (Front (λ i y. slice_get l.extents i ≡ Some y) l.extent-index) l.count l.first l.behind
