use Rattle.file_store.proofs.Names.{arith}
use Rattle.file_store.proofs.sources.image_bytes.Goals as goal

pub returns : goal.returns
returns g c = omega arith
