use Rattle.std.proofs.Common.{refl}
use Rattle.sync_journal.specs.Gate.{open_sector}
use Rattle.pool_journal.proofs.gate.open_bytes.Goals as goal

pub returns : goal.returns
unfolding open_sector
returns c = refl
