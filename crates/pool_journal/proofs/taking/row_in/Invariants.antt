use Rattle.std.proofs.Common.{◌≡◌, ◌≤◌, ◌<◌, ◌+◌, ℕ, get_or}
use Rattle.pool_journal.proofs.taking.row_in.Given as goal

abbrev pub invariant-loop-place : goal.invariant-loop-place
invariant-loop-place l = (l.longest.start + l.longest.length ≤ l.place) × ((r : ℕ) → l.longest.start ≤ r → r < l.longest.start + l.longest.length → get_or l.numbers r 0 ≡ 0)
    × (l.length ≤ l.place) × ((r : ℕ) → l.place ≤ r + l.length → r < l.place → get_or l.numbers r 0 ≡ 0)
