use Rattle.trace_lang.proofs.Radix.{none_reads}
use Rattle.trace_lang.proofs.numerals.digit_of.Goals as goal

pub returns-in_err-digit : goal.returns-in_err-digit
returns-in_err-digit c = none_reads _ _ c.from_residual.ensures (rw c.from.ensures at c.in_err-digit.ensures.value)

pub returns : goal.returns
returns c = rw (← c.from.ensures, c.from-2.ensures) c.in_ok-digit.ensures.value
