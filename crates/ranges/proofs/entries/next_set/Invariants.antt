use Rattle.ranges.proofs.Names.{ℕ, ◌≡◌, ◌-◌, ◌%◌, ◌<◌, ◌≤◌, entry_at}
use Rattle.ranges.proofs.entries.next_set.Given as goal

abbrev pub invariant-loop-at : goal.invariant-loop-at
invariant-loop-at g l = record { from : l.first ≤ l.at; within : l.at ≤ l.stop; passed : (n : ℕ) → l.first ≤ n → n < l.at → entry_at l.memory l.table.0 (n % 512) ≡ 0 }

abbrev pub decreases-loop-at : goal.decreases-loop-at
decreases-loop-at g l = l.stop - l.at
