use Rattle.{std.proofs.Common.{◌∙◌, ap, sym, Some, None}, regions.{proofs.{BehindLemmas.{first_tells}, WalkLemmas.{user_map}}, specs.RunList.{attr_at}}}
use Rattle.regions.proofs.table.Regions.at.Goals as goal

pub returns-in_err-run-clause-value : goal.returns-in_err-run-clause-value
returns-in_err-run-clause-value g c =
    c.from_residual.ensures ∙ sym (first_tells g.M.Levels.mode _ _ _ None c.runs_behind.ensures.maximal c.runs_behind.ensures.found c.in_err-run.ensures.value).at
    ∙ ap (attr_at c.args.self.now) c.get-page.ensures.number

pub returns-in_err-run-clause-user : goal.returns-in_err-run-clause-user
returns-in_err-run-clause-user g c = user_map g.M.Levels.mode c.args.self.now c.runs_behind.ensures.maximal

pub at-requires : goal.at-requires
at-requires g c = (first_tells g.M.Levels.mode _ _ _ (Some c.in_ok-run.run'.now) c.runs_behind.ensures.maximal c.runs_behind.ensures.found c.in_ok-run.ensures.value).is_run

pub returns-clause-value : goal.returns-clause-value
returns-clause-value g c =
    c.at.ensures ∙ sym (first_tells g.M.Levels.mode _ _ _ (Some c.in_ok-run.run'.now) c.runs_behind.ensures.maximal c.runs_behind.ensures.found c.in_ok-run.ensures.value).at
    ∙ ap (attr_at c.args.self.now) c.get-page.ensures.number

pub returns-clause-user : goal.returns-clause-user
returns-clause-user g c = user_map g.M.Levels.mode c.args.self.now c.runs_behind.ensures.maximal
