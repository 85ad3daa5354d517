use Rattle.std.proofs.Common.{◌≡◌, ◌<◌, ◌≤◌, ℕ, false, get_or}
use Rattle.pool_journal.proofs.searches.has_first.Given as goal

abbrev pub invariant-loop-place : goal.invariant-loop-place
invariant-loop-place l = l.found ≡ false → (i : ℕ) → i < l.place → 0 < get_or l.numbers i 0 → get_or l.numbers i 0 ≤ l.homes → ⊥
