use Rattle.trace_lang.proofs.FirstWord.{cut_at}
use Rattle.trace_lang.proofs.words.cut.Goals as goal

pub returns-clause-parts : goal.returns-clause-parts
returns-clause-parts c = cut_at c.args.text.now c.in_ok-at.at c.in_ok-at.ensures.space.0 c.in_ok-at.ensures.space.1
