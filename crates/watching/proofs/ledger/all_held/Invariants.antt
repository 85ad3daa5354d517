use Rattle.{std.proofs.Common.{◌≡◌, ◌<◌, ℕ, false, length}, machine.specs.Machine.{halted_of}, watching.specs.Noted.{NotesFrame}}
use Rattle.watching.proofs.ledger.all_held.Given as goal

abbrev pub invariant-loop-n : goal.invariant-loop-n
invariant-loop-n g l = record {
  long : length l.frames.items ≡ l.n;
  noted : halted_of l.machine ≡ false → (k : ℕ) → k < l.n → NotesFrame l.machine l.frames.items k;
}
