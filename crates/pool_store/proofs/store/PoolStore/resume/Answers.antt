use Rattle.std.proofs.Common.{sym, subst}
use Rattle.pool_store.specs.Resume.{ResumesStore}
use Rattle.pool_store.proofs.store.PoolStore.resume.Goals as goal

pub returns-in-Ok : goal.returns-in-Ok
returns-in-Ok g c = subst (λ store. ResumesStore g.D.SectorDisk c.args.disk store) (sym c.on.ensures) c.in-Ok.ensures

pub returns-in-Err : goal.returns-in-Err
returns-in-Err g c = c.in-Err.ensures
