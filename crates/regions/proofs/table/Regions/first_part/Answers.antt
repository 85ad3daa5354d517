use Rattle.{std.proofs.Common.{◌∙◌, sym, Some, None}, regions.proofs.BehindLemmas.{first_tells}}
use Rattle.regions.proofs.table.Regions.first_part.Goals as goal

pub returns-in_err-run : goal.returns-in_err-run
returns-in_err-run g c =
    record { found = c.from_residual.ensures ∙ sym (first_tells g.M.Levels.mode _ _ _ None c.runs_behind.ensures.maximal c.runs_behind.ensures.found c.in_err-run.ensures.value).part; maximal = c.runs_behind.ensures.maximal }

pub part-requires : goal.part-requires
part-requires g c = (first_tells g.M.Levels.mode _ _ _ (Some c.in_ok-run.run'.now) c.runs_behind.ensures.maximal c.runs_behind.ensures.found c.in_ok-run.ensures.value).is_run

pub returns : goal.returns
returns g c =
    record { found = c.part.ensures ∙ sym (first_tells g.M.Levels.mode _ _ _ (Some c.in_ok-run.run'.now) c.runs_behind.ensures.maximal c.runs_behind.ensures.found c.in_ok-run.ensures.value).part; maximal = c.runs_behind.ensures.maximal }
