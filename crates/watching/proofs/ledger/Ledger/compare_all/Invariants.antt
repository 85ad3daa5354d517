use Rattle.{std.proofs.Common.{◌≡◌, ◌<◌, ℕ, false, length}, frames.specs.FrameTable.{IsFrame}, inspection.specs.Machines.{memory_of}, machine.specs.Machine.{halted_of}}
use Rattle.watching.specs.{Books.{KeepsBooks}, Noted.{NotesFrame}}
use Rattle.watching.proofs.ledger.Ledger.compare_all.Given as goal

abbrev pub invariant-loop-n : goal.invariant-loop-n
invariant-loop-n g l = record {
  books : KeepsBooks l.initial.self.counts.frames l.self.counts.frames;
  long : length l.self.frames.items ≡ length l.initial.self.frames.items;
  noted : halted_of l.inquiry.machine.now ≡ false → (k : ℕ) → k < l.n → k < length l.initial.self.frames.items
      → IsFrame (memory_of l.inquiry.machine.now).frames k → NotesFrame l.inquiry.machine.now l.self.frames.items k;
}
