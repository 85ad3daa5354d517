use Rattle.sync_journal.proofs.Names.{◌≡◌, ◌<◌, ℕ, length, get_or}
use Rattle.sync_journal.proofs.journal.Journal.keep.Given as goal

abbrev pub invariant-loop-j : goal.invariant-loop-j
invariant-loop-j l = (length l.self.homes ≡ 1023) × ((k : ℕ) → k < l.j → get_or l.self.homes k 0 ≡ get_or l.homes k 0)
