use Rattle.std.proofs.Common.{◌≡◌, ◌<◌, ◌%◌, ℕ, true, false, length, get_or}
use Rattle.pool_journal.proofs.sieve.Sieve.of.Given as goal

abbrev pub invariant-loop-place : goal.invariant-loop-place
invariant-loop-place l = record {
  size : length l.marks ≡ 4096;
  marked : (j : ℕ) → j < l.place → get_or l.marks (get_or l.homes j 0 % 4096) false ≡ true;
  only : (b : ℕ) → get_or l.marks b false ≡ true → (j : ℕ) × (j < l.place) × (get_or l.homes j 0 % 4096 ≡ b);
}
