use Rattle.programs.proofs.Specs.{AreSources-next}
use Rattle.programs.proofs.sources.open_sources.Goals as goal

pub loop-spec-preserved : goal.loop-spec-preserved
loop-spec-preserved g c = AreSources-next c.args.specs.now c.loop-spec.spec-index _ _ _ _ c.loop-spec-test.true c.loop-spec.invariant c.in_ok-source.ensures c.in-Ok.ensures.items
