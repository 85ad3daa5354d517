use Rattle.{std.proofs.Common.{refl, subst}, serving.specs.Serving.{ServesRequest}, serving.specs.declared.responses.Response.TheVariants.{Answered, Malformed}}
use Rattle.serving.proofs.serving.respond.Goals as goal

pub returns-in-Some-clause-serves : goal.returns-in-Some-clause-serves
returns-in-Some-clause-serves g c = (
  c.read.result,
  c.read.ensures,
  subst (λ request. ServesRequest g.D.SectorDisk g.E.SectorDisk c.args.machine.now request c.answer-answer.new.machine (Answered c.answer-answer.result c.root_told-root.result)) c.in-Some.ensures
      (c.answer-answer.result, c.root_told-root.result, refl, c.answer-answer.ensures.answers, c.root_told-root.ensures),
)

pub returns-in-None-clause-serves : goal.returns-in-None-clause-serves
returns-in-None-clause-serves g c = (
  c.read.result,
  c.read.ensures,
  subst (λ request. ServesRequest g.D.SectorDisk g.E.SectorDisk c.args.machine.now request c.args.machine.now Malformed) c.in-None.ensures (refl, refl),
)
