use Rattle.ranges.proofs.Names.{arith, span_positive}
use Rattle.ranges.proofs.rows.span_end.Goals as goal

pub nonzero_div-result : goal.nonzero_div-result
nonzero_div-result c = let some = span_positive c.args.level in omega (arith, some, c.entry_pages-span.ensures)
