use Rattle.pool_journal.proofs.Runs.{part_left}
use Rattle.pool_journal.proofs.forgetting.forget_part.Goals as goal

pub returns-else-lets : goal.returns-else-lets
returns-else-lets c = part_left c.args.homes.now c.args.from 8 c.args.numbers.now c.requires.room (c.lets.ensures c.if-lets.false c.args.homes.now c.requires.sieve)
