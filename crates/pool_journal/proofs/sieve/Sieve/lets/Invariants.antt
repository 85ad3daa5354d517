use Rattle.std.proofs.Common.{◌≡◌, ◌<◌, ℕ, List, false, get_or}
use Rattle.pool_journal.specs.Giving.{IsSieveOf, number_but}
use Rattle.pool_journal.proofs.sieve.Sieve.lets.Given as goal

abbrev pub invariant-loop-place : goal.invariant-loop-place
invariant-loop-place l = l.found ≡ false → (homes : List ℕ) → IsSieveOf homes l.self → (i : ℕ) → i < l.place → number_but homes (get_or l.numbers i 0) ≡ get_or l.numbers i 0
