use Rattle.{std.proofs.Common.{refl}, sync_journal.specs.Gate.{open_sector}, stop_trials.specs.Fillings.{half_open_sector}}
use Rattle.stop_trials.proofs.fillings.half_open_bytes.Goals as goal

pub returns : goal.returns
unfolding half_open_sector open_sector
returns c = refl
