use Rattle.residency.proofs.Names.{refl, rules}
use Rattle.residency.proofs.kernel.Core.add_process.Goals as goal

pub returns : goal.returns
returns g c = record { spawns = search rules; rest = record { store = refl; swap = refl; frames = refl; cache = refl; clock = refl; page_of = refl; refused = refl } }
