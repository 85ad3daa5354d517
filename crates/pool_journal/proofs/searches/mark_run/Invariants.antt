use Rattle.pool_journal.specs.Reading.{MarksHomes}
use Rattle.pool_journal.proofs.searches.mark_run.Given as goal

abbrev pub invariant-loop-place : goal.invariant-loop-place
invariant-loop-place l = MarksHomes l.homes l.numbers l.place l.fn.given l.given
