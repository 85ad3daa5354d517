use Rattle.std.proofs.Common.{◌*◌}
use Rattle.pool_journal.specs.Reading.{MarksHomes}
use Rattle.pool_journal.proofs.searches.mark_homes.Given as goal

abbrev pub invariant-loop-run : goal.invariant-loop-run
invariant-loop-run l = MarksHomes l.homes l.numbers (96 * l.run) l.fn.given l.given
