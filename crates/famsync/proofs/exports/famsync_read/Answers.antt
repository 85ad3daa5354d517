use Rattle.famsync.proofs.exports.famsync_read.Goals as goal

pub returns-in-Err-clause-layout : goal.returns-in-Err-clause-layout
returns-in-Err-clause-layout c = λ is. c.in-Err.ensures.refused.layout (c.number.ensures.layout is)
