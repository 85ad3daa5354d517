use Rattle.std.proofs.Common.{◌≡◌, ◌<◌, ◌≤◌, ◌*◌, ℕ, length, get_or}
use Rattle.pool_journal.proofs.map_blocks.counted_in.Given as goal

abbrev pub invariant-loop-q : goal.invariant-loop-q
invariant-loop-q l = (r : ℕ) → 504 * l.q ≤ r → r < length l.first → (get_or l.first r 0 ≡ 0) × (get_or l.second r 0 ≡ 0)
