use Rattle.spaces.proofs.{Names.{◌≤◌, ℕ, is_some, ap, ◌∙◌, subst, arith, false≢true, run_count, attr_at, run_count-same, picture_of}, Numbers.{no_runs}}
use Rattle.spaces.proofs.mappings.runs_of.Goals as goal

pub returns-in-Some : goal.returns-in-Some
returns-in-Some g c =
    let same = run_count-same g.M.Levels.mode (attr_at c.regions.result.now) ((picture_of c.args.core.now).at c.in-Some.pid) c.regions.ensures in
    let count = c.runs.ensures.count in
    let most = c.runs.ensures.limit in
    subst (λ (p : ℕ). run_count g.M.Levels.mode ((picture_of c.args.core.now).at p) ≤ 256) c.in-Some.ensures.found.0 (omega (arith, same, count, most))

pub returns-in-None : goal.returns-in-None
returns-in-None g c = no_runs c.args.core.now c.requires.fit c.args.number (λ r at. false≢true (c.in-None.ensures.known ∙ ap is_some at))
