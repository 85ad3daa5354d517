use Rattle.{std.proofs.Common.{ap, sym}, vm_types.specs.Width.{byte_count}}
use Rattle.vm_types.proofs.width.Width.bytes.Goals as goal

pub returns-in-Eight : goal.returns-in-Eight
returns-in-Eight c = ap byte_count (sym c.in-Eight.is)
