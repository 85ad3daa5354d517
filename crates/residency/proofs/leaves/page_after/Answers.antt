use Rattle.{regions.proofs.StandLemmas.{none_from}, residency.proofs.{LeafSteps.{over_after}, Names.{◌-◌}}}
use Rattle.residency.proofs.leaves.page_after.Goals as goal

pub returns-in_err-offset-clause-none : goal.returns-in_err-offset-clause-none
returns-in_err-offset-clause-none g c = none_from c.from_residual.result _ (λ k over.
    c.in_err-offset.ensures.none (k - c.args.run.first) (over_after c.args.run c.args.first c.args.page k c.requires.first over))
