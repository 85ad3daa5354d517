use Rattle.clock_replace.proofs.Chance.{chance}
use Rattle.clock_replace.proofs.laws.second_chance.Goals as goal

pub returns : goal.returns
returns g c = chance g.V.FrameView
