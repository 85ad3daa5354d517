use Rattle.std.proofs.Common.{rules}
use Rattle.trace_lang.proofs.numerals.with_digit.Goals as goal

pub returns : goal.returns
returns c = search rules
