use Rattle.{std.proofs.Common.{inl, refl, arith}, trace_lang.proofs.Hex.{hex_digits-digits, hex_digits-log}}
use Rattle.trace_lang.proofs.output.hex_len.Goals as goal

pub returns-then-number-eq0-clause-digits : goal.returns-then-number-eq0-clause-digits
returns-then-number-eq0-clause-digits c = hex_digits-digits 0 c.args.number (omega arith) (inl refl) (omega arith)

pub returns-else-number-eq0-clause-digits : goal.returns-else-number-eq0-clause-digits
returns-else-number-eq0-clause-digits c = hex_digits-log c.ilog2.result c.args.number c.ilog2.ensures.power_le c.ilog2.ensures.next_power_gt c.ilog2.ensures.bound
