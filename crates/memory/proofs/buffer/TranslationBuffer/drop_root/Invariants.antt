use Rattle.memory.{specs.Lines.{line_at, line_place}, proofs.Names.{◌≡◌, ◌≢◌, ℕ, ◌<◌, None, length}}
use Rattle.memory.proofs.buffer.TranslationBuffer.drop_root.Given as goal

abbrev pub invariant-loop-place : goal.invariant-loop-place
invariant-loop-place l = record {
  done : (p : ℕ) → line_place p < l.place → line_at l.self l.root.0 p ≡ None;
  others : (r p : ℕ) → r ≢ l.root.0 → line_at l.self r p ≡ line_at l.fn.self r p;
  room : length l.self.lines ≡ 64;
  unfound : l.self.found ≡ l.fn.self.found;
}
