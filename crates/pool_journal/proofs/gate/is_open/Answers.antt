use Rattle.sync_journal.specs.Gate.{is_open_sector}
use Rattle.pool_journal.proofs.gate.is_open.Goals as goal

pub returns : goal.returns
unfolding is_open_sector
returns c = cc
