use Rattle.std.{proofs.Common.{◌≡◌, ◌<◌, ◌^◌, take}, specs.Str.Parse.{AllDigits, digits_value}}
use Rattle.trace_lang.proofs.numerals.front_digits.Given as goal

abbrev pub invariant-loop-at : goal.invariant-loop-at
invariant-loop-at l = record {
  digits : AllDigits l.radix.base (take l.at l.text);
  value : l.value ≡ digits_value l.radix.base (take l.at l.text);
  small : l.value < l.radix.base ^ l.at;
}
