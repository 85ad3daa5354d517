use Rattle.{std.proofs.Common.{take}, trace_lang.specs.Grammar.{HasNoSpace}}
use Rattle.trace_lang.proofs.words.space_in.Given as goal

abbrev pub invariant-loop-at : goal.invariant-loop-at
invariant-loop-at l = record {
  plain : HasNoSpace (take l.at l.text);
}
