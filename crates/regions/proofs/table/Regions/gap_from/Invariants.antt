use Rattle.{std.proofs.Common.{◌≡◌, drop}, regions.specs.Search.{gap_from}}
use Rattle.regions.proofs.table.Regions.gap_from.Given as goal

abbrev pub invariant-loop-run : goal.invariant-loop-run
invariant-loop-run g l = gap_from l.gap (drop l.run-index l.run-items) ≡ gap_from l.page l.self
