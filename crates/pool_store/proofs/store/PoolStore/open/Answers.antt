use Rattle.std.proofs.Common.{sym, subst}
use Rattle.pool_store.specs.Opened.{OpensPool}
use Rattle.pool_store.proofs.store.PoolStore.open.Goals as goal

pub returns-in-Ok : goal.returns-in-Ok
returns-in-Ok g c = subst (λ store. OpensPool g.D.SectorDisk c.args.disk store) (sym c.on.ensures) c.in-Ok.ensures

pub returns-in-Err : goal.returns-in-Err
returns-in-Err g c = c.in-Err.ensures
