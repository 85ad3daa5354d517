use Rattle.memory.proofs.Names.{◌≡◌, ◌≤◌, vec_len, vec_capacity}
use Rattle.memory.proofs.notes.Notes.new.Given as goal

abbrev pub invariant-loop-n : goal.invariant-loop-n
invariant-loop-n l = (vec_len l.each ≡ l.n) × (l.count ≤ vec_capacity l.each)
