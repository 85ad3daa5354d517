use Rattle.{std.proofs.Common.{refl}, sync_journal.specs.Gate.{open_sector}}
use Rattle.stop_trials.proofs.fillings.open_bytes.Goals as goal

pub returns : goal.returns
unfolding open_sector
returns c = refl
