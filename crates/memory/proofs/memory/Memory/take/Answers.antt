use Rattle.memory.proofs.{Keeping.{kept_taken}, Noting.{noted_taken}}
use Rattle.memory.proofs.memory.Memory.take.Goals as goal

pub invariant_of-self : goal.invariant_of-self
invariant_of-self g c = (
  kept_taken g.M.Levels.mode c.self.inside.frames c.take.new.self c.self.inside.buffer c.args.role c.take.result c.self.invariant.0 c.take.ensures.taken c.take.ensures.err,
  noted_taken g.M.Levels.mode c.self.inside.frames c.take.new.self c.self.inside.notes c.args.role c.take.result c.self.invariant.1 c.take.ensures.taken c.take.ensures.err,
  c.self.invariant.2,
)
