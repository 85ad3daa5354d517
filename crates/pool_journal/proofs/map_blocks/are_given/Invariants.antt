use Rattle.std.proofs.Common.{◌≡◌, ◌<◌, ℕ, true, false, get_or, length}
use Rattle.pool_journal.proofs.map_blocks.are_given.Given as goal

abbrev pub invariant-loop-i : goal.invariant-loop-i
invariant-loop-i l = (l.found ≡ true → (k : ℕ) × (k < length l.first) × ((get_or l.first k 0 ≡ 0) × (get_or l.second k 0 ≡ 0) → ⊥))
    × (l.found ≡ false → (k : ℕ) → k < l.i → (get_or l.first k 0 ≡ 0) × (get_or l.second k 0 ≡ 0))
