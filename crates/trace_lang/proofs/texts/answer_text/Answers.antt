use Rattle.std.proofs.Common.{rules}
use Rattle.trace_lang.proofs.texts.answer_text.Goals as goal

pub returns-clause-text : goal.returns-clause-text
returns-clause-text c = search rules
