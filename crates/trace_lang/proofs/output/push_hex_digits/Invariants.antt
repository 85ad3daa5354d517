use Rattle.{std.proofs.Common.{◌≡◌, ◌+◌, ◌-◌, ◌≤◌, ◌++◌, take, drop, length}, trace_lang.specs.Texts.{hex_digits}}
use Rattle.trace_lang.proofs.output.push_hex_digits.Given as goal

abbrev pub invariant-loop-place : goal.invariant-loop-place
invariant-loop-place l = record {
  low : l.at ≤ l.place;
  high : l.place ≤ l.at + l.count;
  room : length l.out ≡ 1024;
  kept : take l.at l.out ≡ take l.at l.fn.out;
  written : hex_digits (l.place - l.at) l.rest ++ drop l.place (take (l.at + l.count) l.out) ≡ hex_digits l.count l.number;
}

abbrev pub decreases-loop-place : goal.decreases-loop-place
decreases-loop-place l = l.place
