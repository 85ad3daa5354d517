use Rattle.std.proofs.Common.{◌≡◌, ◌<◌, ℕ, false, get_or}
use Rattle.pool_journal.specs.Giving.{number_but}
use Rattle.pool_journal.proofs.forgetting.may_have.Given as goal

abbrev pub invariant-loop-place : goal.invariant-loop-place
invariant-loop-place l = l.found ≡ false → (i : ℕ) → i < l.place → number_but l.homes (get_or l.numbers i 0) ≡ get_or l.numbers i 0
