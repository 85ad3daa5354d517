use Rattle.residency.proofs.Names.{rules}
use Rattle.residency.proofs.kernel.Core.live.Goals as goal

pub returns : goal.returns
returns g c = record { known = search rules; found = search rules }
