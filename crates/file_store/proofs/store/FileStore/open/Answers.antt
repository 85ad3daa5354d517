use Rattle.file_store.proofs.Mounted.{opens, refuses}
use Rattle.file_store.proofs.store.FileStore.open.Goals as goal

pub returns-in-Ok : goal.returns-in-Ok
returns-in-Ok g c = opens g.D.SectorDisk c.args.disk c.mount.new.disk c.mount.ensures.run c.closed.result c.in-Ok.directory c.closed.ensures c.in-Ok.ensures.ok

pub returns-in-Err : goal.returns-in-Err
returns-in-Err g c = refuses g.D.SectorDisk c.args.disk c.mount.new.disk c.mount.ensures.run c.in-Err.fault c.in-Err.ensures.err
