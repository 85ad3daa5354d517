use Rattle.std.proofs.Common.{refl}
use Rattle.clock_replace.proofs.clock.Clock.hand.Goals as goal

pub returns : goal.returns
returns c = refl
