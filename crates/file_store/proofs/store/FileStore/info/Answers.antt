use Rattle.file_store.proofs.Names.{rules}
use Rattle.file_store.proofs.store.FileStore.info.Goals as goal

pub returns : goal.returns
returns g c = search rules
