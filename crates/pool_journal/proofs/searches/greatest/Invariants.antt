use Rattle.std.proofs.Common.{◌≡◌, ◌<◌, ◌≤◌, ℕ, get_or, length}
use Rattle.pool_journal.proofs.searches.greatest.Given as goal

abbrev pub invariant-loop-place : goal.invariant-loop-place
invariant-loop-place l = ((i : ℕ) → i < l.place → get_or l.numbers i 0 ≤ l.most) × (0 < l.most → (i : ℕ) × (i < length l.numbers) × (get_or l.numbers i 0 ≡ l.most))
