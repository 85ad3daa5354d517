use Rattle.std.proofs.Common.{◌≡◌, None, get_or}
use Rattle.pool_journal.specs.Pools.{first_among}
use Rattle.pool_journal.proofs.searches.first_place.Given as goal

abbrev pub invariant-loop-place : goal.invariant-loop-place
invariant-loop-place l = first_among (λ r. get_or l.numbers r 0) l.number l.place ≡ None
