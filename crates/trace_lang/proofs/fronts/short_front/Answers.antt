use Rattle.{std.proofs.Common.{arith}, trace_lang.proofs.FirstWord.{cut_at, begins_with_digits}}
use Rattle.trace_lang.proofs.fronts.short_front.Goals as goal

pub returns-then-text-at-eq32 : goal.returns-then-text-at-eq32
returns-then-text-at-eq32 c =
    let text = c.args.text.now in
    let at = c.front_digits-value.result.1 in
    let front = c.front_digits-value.ensures in
    begins_with_digits c.args.radix.base text _ at c.front_digits-value.result.0 (cut_at text at (omega arith) (omega arith)) (omega arith) (omega arith) front.digits.0 front.digits.1 (omega arith)
