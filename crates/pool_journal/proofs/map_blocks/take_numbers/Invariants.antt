use Rattle.std.proofs.Common.{◌≡◌, ◌<◌, ◌≤◌, ◌+◌, ◌*◌, ◌⊎◌, ℕ, drop, length, get_or}
use Rattle.byteorder.specs.Endian.{little_number}
use Rattle.pool_journal.specs.Pools.{within}
use Rattle.pool_journal.proofs.map_blocks.take_numbers.Given as goal

abbrev pub invariant-loop-i : goal.invariant-loop-i
invariant-loop-i l = (length l.numbers ≡ length l.fn.numbers)
    × ((j : ℕ) → j < l.i → get_or l.numbers (l.from + j) 0 ≡ within l.most (little_number 4 (drop (4 * j) l.bytes)))
    × ((r : ℕ) → (r < l.from) ⊎ (l.from + 504 ≤ r) → get_or l.numbers r 0 ≡ get_or l.fn.numbers r 0)
