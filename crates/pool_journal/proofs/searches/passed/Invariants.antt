use Rattle.std.proofs.Common.{◌≡◌, ◌*◌, None, get_or}
use Rattle.pool_journal.specs.Pools.{first_among}
use Rattle.pool_journal.proofs.searches.passed.Given as goal

abbrev pub invariant-loop-run : goal.invariant-loop-run
invariant-loop-run l = first_among (λ r. get_or l.numbers r 0) l.number (96 * l.run) ≡ None
