use Rattle.memory.{specs.{Lines.{leaf_for}, declared.line.Line.{Line}}, proofs.Names.{◌%◌, None, Option, ap, arith, get_or-replicate}}
use Rattle.memory.proofs.buffer.TranslationBuffer.new.Goals as goal

pub returns-clause-none : goal.returns-clause-none
returns-clause-none c = λ root page. ap (λ (o : Option Line). leaf_for o root page) (get_or-replicate 64 (page % 64) None None (omega arith))
