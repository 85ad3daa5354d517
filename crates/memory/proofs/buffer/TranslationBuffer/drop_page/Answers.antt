use Rattle.memory.proofs.Names.{arith}
use Rattle.std.proofs.lemmas.Grind.{common_steps}
use Rattle.memory.proofs.buffer.TranslationBuffer.drop_page.Goals as goal

pub returns-then-eq-2-clause-others : goal.returns-then-eq-2-clause-others
returns-then-eq-2-clause-others c = grind (arith, common_steps)
