use Rattle.std.proofs.Common.{rules}
use Rattle.swap.proofs.slots.Swap.get.Goals as goal

pub returns : goal.returns
returns g c = search rules
