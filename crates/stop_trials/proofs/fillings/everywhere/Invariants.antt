use Rattle.stop_trials.proofs.Choices.{AreListed}
use Rattle.stop_trials.proofs.fillings.everywhere.Given as goal

abbrev pub invariant-loop-sector : goal.invariant-loop-sector
invariant-loop-sector l = AreListed l.chosen.items l.sector l.bytes
