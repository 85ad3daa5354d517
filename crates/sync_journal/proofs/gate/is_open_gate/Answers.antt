use Rattle.sync_journal.specs.Gate.{is_open_sector}
use Rattle.sync_journal.proofs.gate.is_open_gate.Goals as goal

pub returns : goal.returns
unfolding is_open_sector
returns c = cc
