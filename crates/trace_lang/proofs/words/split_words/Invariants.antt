use Rattle.std.proofs.Common.{◌≡◌, ◌≤◌, map, take, length}
use Rattle.trace_lang.proofs.words.split_words.Given as goal

abbrev pub invariant-loop-word : goal.invariant-loop-word
invariant-loop-word l = record {
  few : l.count ≤ 4;
  room : length l.words ≡ 4;
  count : l.count ≡ length l.yielded;
  same : map (λ w. w.now) (take l.count l.words) ≡ map (λ w. w.now) l.yielded;
}
