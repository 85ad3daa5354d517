use Rattle.memory.proofs.Names.{refl, rules}
use Rattle.memory.proofs.buffer.TranslationBuffer.drop_place.Goals as goal

pub returns : goal.returns
returns c = record { dropped = search rules; others = search rules; unfound = refl }
