use Rattle.sync_journal.proofs.Names.{ℕ, ◌≡◌, ◌<◌, get_or}
use Rattle.sync_journal.proofs.map.are_homes.Given as goal

abbrev pub invariant-loop-j : goal.invariant-loop-j
invariant-loop-j l = ((k : ℕ) → k < l.j → get_or l.homes k 0 < l.limit) × ((i k : ℕ) → i < k → k < l.j → get_or l.homes i 0 ≡ get_or l.homes k 0 → ⊥)
