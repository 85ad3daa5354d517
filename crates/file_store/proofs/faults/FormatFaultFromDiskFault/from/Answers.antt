use Rattle.file_store.proofs.Names.{refl}
use Rattle.file_store.proofs.faults.FormatFaultFromDiskFault.from.Goals as goal

pub returns : goal.returns
returns c = refl
