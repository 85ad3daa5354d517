use Rattle.std.proofs.Common.{rules}
use Rattle.sv39_walk.proofs.pte.Pte.grants.Goals as goal

pub returns-in-Store : goal.returns-in-Store
returns-in-Store c = search rules
