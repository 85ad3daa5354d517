use Rattle.{std.proofs.Common.{◌≡◌, ◌+◌, ◌*◌, ◌≤◌, ◌++◌, take, length, codes, decimal, flat_map}, trace_lang.specs.Texts.{past_line}}
use Rattle.trace_lang.proofs.texts.push_history.Given as goal

abbrev pub invariant-loop-i : goal.invariant-loop-i
invariant-loop-i l = record {
  room : l.at ≤ 10 + 44 * l.i;
  few : length l.faults ≤ 16;
  same : l.faults ≡ l.history;
  end : l.i-end ≡ length l.faults;
  text : take l.at l.out ≡ codes "faults " ++ decimal (length l.faults) ++ flat_map past_line (take l.i l.faults);
}
