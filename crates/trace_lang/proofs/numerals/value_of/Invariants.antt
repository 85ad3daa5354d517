use Rattle.std.{proofs.Common.{◌≡◌, ◌<◌, ◌^◌, take}, specs.Str.Parse.{AllDigits, digits_value}}
use Rattle.trace_lang.proofs.numerals.value_of.Given as goal

abbrev pub invariant-loop-byte : goal.invariant-loop-byte
invariant-loop-byte l = record {
  digits : AllDigits l.radix.base (take l.byte-index l.digits);
  value : l.value ≡ digits_value l.radix.base (take l.byte-index l.digits);
  fits : l.value < 2 ^ 64;
}
