use Rattle.std.proofs.Common.{◌≡◌, slice_get, Some}
use Rattle.growth.specs.Parts.{extents_of_file}
use Rattle.growth.specs.Room.{IsOf, PassesOver}
use Rattle.growth.specs.declared.changes.Change.{Change}
use Rattle.growth.proofs.Passed.{Front}
use Rattle.growth.proofs.passes.pass_changes.Given as goal

abbrev pub invariant-loop-change : goal.invariant-loop-change
invariant-loop-change l = PassesOver (Front (λ i y. (c : Change) × (slice_get l.changes i ≡ Some c) × IsOf (extents_of_file c.entry) y) l.change-index) l.count l.first l.behind
