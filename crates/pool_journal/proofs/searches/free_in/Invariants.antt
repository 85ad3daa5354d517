use Rattle.std.proofs.Common.{◌≡◌, ◌≤◌, Bool, length, get_or}
use Rattle.pool_journal.specs.Maps.{free_among}
use Rattle.pool_journal.proofs.searches.free_in.Given as goal

abbrev pub invariant-loop-place : goal.invariant-loop-place
invariant-loop-place l = ((body : Bool) → l.count ≡ length (free_among (λ r. get_or l.numbers r 0) body l.place)) × (l.count ≤ l.place)
