use Rattle.std.proofs.Common.{◌<◌, ℕ, get_or}
use Rattle.pool_tests.proofs.bench.are_rising.Given as goal

-- the homes before that one rise, and are below the limit
abbrev pub invariant-loop-i : goal.invariant-loop-i
invariant-loop-i l = ((a b : ℕ) → a < b → b < l.i → get_or l.homes a 0 < get_or l.homes b 0) × ((j : ℕ) → j < l.i → get_or l.homes j 0 < l.limit)
