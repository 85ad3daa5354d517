use Rattle.std.proofs.{Common.{arith}, lemmas.Grind.{common_steps}}
use Rattle.trace_lang.proofs.texts.push_past.Goals as goal

pub returns-clause-text : goal.returns-clause-text
returns-clause-text c = grind (arith, common_steps)
