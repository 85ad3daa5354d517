use Rattle.ranges.proofs.{LeafEntries.{permitted_over}, Names.{number_of}}
use Rattle.ranges.proofs.leaves.permitted.Goals as goal

pub returns-clause-permitted : goal.returns-clause-permitted
returns-clause-permitted c =
    permitted_over c.args.prot c.args.writable c.args.number.0 (number_of c.entry_over.result) c.frame_number.result.0 c.is_private.result c.is_marked.result
    c.frame_number.ensures c.is_private.ensures c.is_marked.ensures c.entry_over.ensures.over
