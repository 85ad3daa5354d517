use Rattle.{std.{proofs.{Common.{ℕ, ◌<◌, ◌^◌, List, length, refl, sym, ◌∙◌, ap, subst}, lemmas.{Int.Digits.{digits_more}, List.{take_all}}}, specs.Str.Parse.{AllDigits, digits_value}}, trace_lang.proofs.Radix.{not_empty, none_reads}}
use Rattle.trace_lang.proofs.Radix.{digit_below, value_so_far, next_value, digit_past}
use Rattle.trace_lang.proofs.numerals.value_of.Goals as goal

pub returns-in_err-digit : goal.returns-in_err-digit
returns-in_err-digit c = none_reads _ _ c.from_residual.ensures (λ h.
    c.in_err-digit.ensures (digit_below c.args.radix.base c.args.digits.now c.loop-byte.byte-index _ refl h.0.1 c.loop-byte-test.true))

pub returns-in_err-value : goal.returns-in_err-value
returns-in_err-value c = none_reads _ _ c.from_residual-in_err-value.ensures (λ h.
    digit_past _ _ _ _ _ _ (value_so_far c.args.radix.base c.args.digits.now c.loop-byte.byte-index c.loop-byte.value c.args.radix.low c.loop-byte-test.true c.loop-byte.invariant.value)
    h.1 c.in_ok-digit.ensures.1 c.in_err-value.ensures)

pub loop-byte-preserved : goal.loop-byte-preserved
loop-byte-preserved c =
    let i = c.loop-byte.byte-index in
    let a = c.in_ok-value.ensures in
    record {
      digits = digits_more c.args.radix.base c.args.digits.now i c.loop-byte-test.true c.loop-byte.invariant.digits c.in_ok-digit.ensures.0;
      value = next_value c.args.radix.base c.args.digits.now i c.loop-byte.value _ _ _ c.loop-byte-test.true c.loop-byte.invariant.value refl c.in_ok-digit.ensures.1 a.1;
      fits = subst (λ (x : ℕ). x < 2 ^ 64) (sym a.1) a.0;
    }

pub returns : goal.returns
returns c =
    let whole = take_all c.loop-byte.byte-index c.args.digits.now c.loop-byte-test.false in
    let P : List ℕ → Type 0 = λ ds. AllDigits c.args.radix.base ds in
    let Q : ℕ → Type 0 = λ x. x < 2 ^ 64 in
    let e = c.loop-byte.invariant.value ∙ ap (λ ds. digits_value c.args.radix.base ds) whole in
    (((not_empty (length c.args.digits.now) _ c.is_empty.ensures c.if-is_empty.false, subst P whole c.loop-byte.invariant.digits), subst Q e c.loop-byte.invariant.fits), e)
