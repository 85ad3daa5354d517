use Rattle.inspection.proofs.{Mappers.{mapper_on}, Names.{arith, picture_of}}
use Rattle.inspection.proofs.frame_views.first_mapper.Goals as goal

pub returns-in-Some-clause-some : goal.returns-in-Some-clause-some
returns-in-Some-clause-some g c =
    let found = c.in-Some.ensures.some in
    mapper_on (picture_of c.args.core.now) c.args.n.0 c.args.pid c.args.page c.loop-number.number c.low_in-low.result (omega arith) c.low_in-low.ensures c.loop-number.invariant
    c.in-Some.found found.1 found.0
