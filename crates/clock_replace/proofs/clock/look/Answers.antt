use Rattle.std.proofs.Common.{rules}
use Rattle.clock_replace.proofs.clock.look.Goals as goal

pub returns-then-not-accessed-clause-chosen : goal.returns-then-not-accessed-clause-chosen
returns-then-not-accessed-clause-chosen g c = search rules

pub returns-clause-passed : goal.returns-clause-passed
returns-clause-passed g c = search rules
