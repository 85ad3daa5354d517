use Rattle.{std.proofs.Common.{◌≡◌, drop}, regions.specs.Search.{first_on}}
use Rattle.regions.proofs.table.Regions.first_page.Given as goal

abbrev pub invariant-loop-run : goal.invariant-loop-run
invariant-loop-run g l = first_on l.low l.key (drop l.run-index l.run-items) ≡ first_on l.low l.key l.self
