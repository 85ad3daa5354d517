use Rattle.{std.proofs.Common.{sym, Some, None}, regions.proofs.BehindLemmas.{first_tells}}
use Rattle.regions.proofs.table.Regions.is_clear.Goals as goal

pub returns-in-Some : goal.returns-in-Some
returns-in-Some g c =
    record { found = sym ((first_tells g.M.Levels.mode _ _ _ (Some c.in-Some.run'.now) c.runs_behind.ensures.maximal c.runs_behind.ensures.found c.in-Some.ensures.value).clear c.args.end); maximal = c.runs_behind.ensures.maximal }

pub returns-in-None : goal.returns-in-None
returns-in-None g c =
    record { found = sym ((first_tells g.M.Levels.mode _ _ _ None c.runs_behind.ensures.maximal c.runs_behind.ensures.found c.in-None.ensures.value).clear c.args.end); maximal = c.runs_behind.ensures.maximal }
