use Rattle.directories.proofs.Said.{said}
use Rattle.directories.proofs.laws.entries_are_said.Goals as goal

pub returns : goal.returns
returns c = said
