use Rattle.spaces.proofs.Names.{refl}
use Rattle.spaces.proofs.accesses.load.Goals as goal

pub returns-clause-comes : goal.returns-clause-comes
returns-clause-comes g c = c.read.ensures.comes.load refl

pub returns-clause-keeps : goal.returns-clause-keeps
returns-clause-keeps g c = c.read.ensures.keeps
