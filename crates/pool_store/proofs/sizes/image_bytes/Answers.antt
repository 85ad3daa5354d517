use Rattle.pool_store.proofs.Names.{arith}
use Rattle.pool_store.proofs.sizes.image_bytes.Goals as goal

pub returns : goal.returns
returns g c = omega (arith, c.requires)
