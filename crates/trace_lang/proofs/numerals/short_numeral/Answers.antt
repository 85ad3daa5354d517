use Rattle.{std.proofs.Common.{refl, arith}, trace_lang.proofs.Radix.{digit_below}}
use Rattle.trace_lang.proofs.numerals.short_numeral.Goals as goal

pub returns-else-count-digits : goal.returns-else-count-digits
returns-else-count-digits c = λ h.
    let below = digit_below c.args.radix.base c.args.digits.now c.front_digits-value.result.1 _ refl h.0.1 (omega arith) in
    omega (arith, c.front_digits-value.ensures.end (omega arith) (omega arith), below)
