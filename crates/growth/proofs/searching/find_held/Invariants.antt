use Rattle.std.proofs.Common.{ℕ, ◌<◌}
use Rattle.directories.specs.Layouts.{IsExtent, ShareHome}
use Rattle.directories.specs.declared.entry.Extent.{Extent}
use Rattle.growth.proofs.searching.find_held.Given as goal

abbrev pub invariant-loop-file : goal.invariant-loop-file
invariant-loop-file l = (g j : ℕ) (y : Extent) → g < l.file → IsExtent l.entries g j y → ShareHome l.extent y → ⊥
