use Rattle.std.proofs.Common.{ℕ, ◌≡◌, ◌<◌, slice_get, Some}
use Rattle.growth.specs.Parts.{new_extents, IsApartFrom}
use Rattle.growth.specs.declared.changes.Change.{Change}
use Rattle.growth.proofs.searching.find_taking.Given as goal

abbrev pub invariant-loop-change : goal.invariant-loop-change
invariant-loop-change l = (m : ℕ) (c : Change) → m < l.change-index → slice_get l.changes m ≡ Some c → IsApartFrom (new_extents l.before c) l.extent
