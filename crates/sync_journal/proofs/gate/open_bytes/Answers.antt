use Rattle.sync_journal.{proofs.Names.{refl}, specs.Gate.{open_sector}}
use Rattle.sync_journal.proofs.gate.open_bytes.Goals as goal

pub returns : goal.returns
unfolding open_sector
returns c = refl
