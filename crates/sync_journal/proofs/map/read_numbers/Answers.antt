use Rattle.sync_journal.proofs.{Maps.{number_at}, Names.{◌∙◌, ◌+◌, ◌*◌, ◌-◌, length, arith}}
use Rattle.sync_journal.proofs.map.read_numbers.Goals as goal

pub returns : goal.returns
returns c = λ j below. c.read_u32_into.ensures j below ∙ number_at (4 + 4 * length c.args.homes.now - 4) j c.args.map.now (omega arith)
