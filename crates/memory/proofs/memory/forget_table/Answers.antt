use Rattle.memory.proofs.Names.{refl}
use Rattle.memory.proofs.memory.forget_table.Goals as goal

pub returns-else-eq-clause-kept : goal.returns-else-eq-clause-kept
returns-else-eq-clause-kept c = λ other. refl
