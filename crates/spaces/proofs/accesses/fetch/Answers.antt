use Rattle.spaces.proofs.Names.{refl}
use Rattle.spaces.proofs.accesses.fetch.Goals as goal

pub returns-clause-comes : goal.returns-clause-comes
returns-clause-comes g c = c.read.ensures.comes.fetch refl refl

pub returns-clause-keeps : goal.returns-clause-keeps
returns-clause-keeps g c = c.read.ensures.keeps

pub returns-clause-walked : goal.returns-clause-walked
returns-clause-walked g c = c.read.ensures.walked
