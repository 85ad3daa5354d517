use Rattle.lives.proofs.Samples.{in_second, in_first}
use Rattle.lives.proofs.laws.two_lives.Goals as goal

pub returns-clause-second : goal.returns-clause-second
returns-clause-second g = in_second

pub returns-clause-first : goal.returns-clause-first
returns-clause-first g = in_first
