use Rattle.std.proofs.Common.{ℕ}
use Rattle.directories.specs.Layouts.{IsExtent}
use Rattle.growth.specs.Room.{PassesOver}
use Rattle.growth.proofs.Passed.{Front}
use Rattle.growth.proofs.passes.pass_files.Given as goal

abbrev pub invariant-loop-entry : goal.invariant-loop-entry
invariant-loop-entry l = PassesOver (Front (λ g y. (j : ℕ) × IsExtent l.entries g j y) l.entry-index) l.count l.first l.behind
