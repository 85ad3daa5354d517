use Rattle.stores.{proofs.{Names.{sym, subst}, PoolOpens.{pool_opens, pool_refuses}}, specs.Opened.{RefusesToOpen}}
use Rattle.stores.proofs.opening.open_pool.Goals as goal

pub returns-in-Ok : goal.returns-in-Ok
returns-in-Ok g c = pool_opens g.D.SectorDisk c.args.disk g.met.D.SectorDisk.only_now c.in-Ok.store c.in-Ok.ensures

pub returns-in-Err : goal.returns-in-Err
returns-in-Err g c = subst (λ fault. RefusesToOpen g.D.SectorDisk c.args.disk fault c.in-Err.disk) (sym c.from.ensures)
    (pool_refuses g.D.SectorDisk c.args.disk g.met.D.SectorDisk.only_now c.requires c.in-Err.fault c.in-Err.disk c.in-Err.ensures)
