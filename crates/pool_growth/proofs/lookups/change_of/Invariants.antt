use Rattle.std.proofs.Common.{◌≡◌, drop}
use Rattle.growth.specs.Changes.{change_of}
use Rattle.pool_growth.proofs.lookups.change_of.Given as goal

abbrev pub invariant-loop-change : goal.invariant-loop-change
invariant-loop-change l = change_of l.changes l.file ≡ change_of (drop l.change-index l.changes) l.file
