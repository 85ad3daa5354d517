use Rattle.residency.proofs.Names.{rules}
use Rattle.residency.proofs.kernel.Core.remap.Goals as goal

pub returns : goal.returns
returns g c = record { remaps = search rules; at = search rules; roots = search rules; rest = search rules }
