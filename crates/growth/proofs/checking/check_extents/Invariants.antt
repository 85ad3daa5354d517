use Rattle.std.proofs.Common.{◌≡◌, ◌+◌, drop, slice_get, Some}
use Rattle.growth.specs.Parts.{AreExtentsGood}
use Rattle.growth.specs.declared.changes.Change.{Change}
use Rattle.growth.proofs.checking.check_extents.Given as goal

abbrev pub invariant-loop-k : goal.invariant-loop-k
invariant-loop-k l = (c : Change) → slice_get l.changes l.i ≡ Some c → AreExtentsGood l.before c (drop (l.i + 1) l.changes) l.k
