use Rattle.{std.proofs.Common.{map, take}, programs.specs.Specs.{AreSpecSources}}
use Rattle.programs.proofs.sources.open_sources.Given as goal

abbrev pub invariant-loop-spec : goal.invariant-loop-spec
invariant-loop-spec g l = AreSpecSources (map (λ spec. spec.now) (take l.spec-index l.specs)) l.sources.items
