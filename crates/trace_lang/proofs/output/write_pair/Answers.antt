use Rattle.{std.proofs.Common.{arith}, trace_lang.proofs.Hex.{PAIRS_at}}
use Rattle.trace_lang.proofs.output.write_pair.Goals as goal

pub returns : goal.returns
returns c = let p = PAIRS_at c.args.byte (omega arith) in rw (p.0, p.1)
