use Rattle.std.proofs.Common.{refl}
use Rattle.file_store.specs.Layout.{pool_mark}
use Rattle.file_store.proofs.version.pool_mark.Goals as goal

pub returns : goal.returns
unfolding pool_mark
returns c = refl
