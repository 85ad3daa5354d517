use Rattle.spaces.proofs.{Names.{attr_at}, Placing.{free_before, free_to_the_end}}
use Rattle.spaces.proofs.mappings.is_free.Goals as goal

pub returns-in-Some : goal.returns-in-Some
returns-in-Some g c = free_before g.M.Levels.mode (attr_at c.args.regions.now) c.args.first c.args.pages c.in-Some.run' c.in-Some.ensures.some

pub returns-in-None : goal.returns-in-None
returns-in-None g c = free_to_the_end (attr_at c.args.regions.now) c.args.first c.args.pages c.in-None.ensures.none
