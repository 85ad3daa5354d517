use Rattle.growth.specs.Parts.{AreChecked}
use Rattle.growth.proofs.checking.check_changes.Given as goal

abbrev pub invariant-loop-i : goal.invariant-loop-i
invariant-loop-i l = AreChecked l.pages l.homes l.before l.changes l.i
