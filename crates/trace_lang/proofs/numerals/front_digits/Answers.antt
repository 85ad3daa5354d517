use Rattle.{std.proofs.{Common.{ℕ, ◌<◌, length, refl, sym, subst, arith}, lemmas.Int.Digits.{digits_more}}, trace_lang.proofs.Radix.{next_value, next_small, next_fits}}
use Rattle.trace_lang.proofs.numerals.front_digits.Goals as goal

pub overflow_mul-value : goal.overflow_mul-value
overflow_mul-value c =
    let low : 0 < c.args.radix.base = omega (arith, c.args.radix.low) in
    let inside : c.loop-at.at < c.args.radix.most = omega arith in
    let fits = next_fits c.args.radix.base c.args.radix.most c.loop-at.at c.loop-at.value 0 c.args.radix.low c.args.radix.room inside c.loop-at.invariant.small low in
    omega (arith, fits)

pub overflow_add-value : goal.overflow_add-value
overflow_add-value c =
    let inside : c.loop-at.at < c.args.radix.most = omega arith in
    let fits = next_fits c.args.radix.base c.args.radix.most c.loop-at.at c.loop-at.value c.in-Some.digit c.args.radix.low c.args.radix.room inside c.loop-at.invariant.small
    (subst (λ (x : ℕ). x < c.args.radix.base) (sym c.in-Some.ensures.1) c.in-Some.ensures.0) in
    omega (arith, fits)

pub loop-at-preserved : goal.loop-at-preserved
loop-at-preserved c =
    let i = c.loop-at.at in
    let inside : i < length c.args.text.now = omega arith in
    let digit = c.in-Some.ensures in
    record {
      digits = digits_more c.args.radix.base c.args.text.now i inside c.loop-at.invariant.digits digit.0;
      value = next_value c.args.radix.base c.args.text.now i c.loop-at.value _ c.in-Some.digit _ inside c.loop-at.invariant.value refl digit.1 refl;
      small = next_small c.args.radix.base i c.loop-at.value _ c.loop-at.invariant.small (subst (λ (x : ℕ). x < c.args.radix.base) (sym digit.1) digit.0);
    }
