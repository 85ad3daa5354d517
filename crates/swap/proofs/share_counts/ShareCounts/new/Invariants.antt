use Rattle.std.proofs.Common.{◌≡◌, ◌-◌, ◌<◌, ◌≤◌, ℕ, length, get_or, replicate, vec_capacity}
use Rattle.swap.proofs.share_counts.ShareCounts.new.Given as goal

-- so many slots have no share, and are on the stack
abbrev pub invariant-loop-n : goal.invariant-loop-n
invariant-loop-n l = record {
  zeros : l.counts.items ≡ replicate l.n 0;
  size : length l.free.items ≡ l.n;
  each : (k : ℕ) → k < l.n → get_or l.free.items k 0 ≡ l.slots - 1 - k;
  room_counts : l.slots ≤ vec_capacity l.counts;
  room : l.slots ≤ vec_capacity l.free;
}
