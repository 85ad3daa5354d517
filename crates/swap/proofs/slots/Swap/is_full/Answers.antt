use Rattle.swap.proofs.Stack.{full_test}
use Rattle.swap.proofs.slots.Swap.is_full.Goals as goal

pub returns : goal.returns
returns g c = full_test c.args.self.now.counts c.free_count.result c.free_count.ensures
