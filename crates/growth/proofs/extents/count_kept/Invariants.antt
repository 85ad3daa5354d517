use Rattle.std.proofs.Common.{◌≡◌, ◌+◌, drop}
use Rattle.growth.specs.Parts.{kept_count}
use Rattle.growth.proofs.extents.count_kept.Given as goal

abbrev pub invariant-loop-i : goal.invariant-loop-i
invariant-loop-i l = kept_count l.old l.new ≡ kept_count (drop l.i l.old) (drop l.i l.new) + l.i
