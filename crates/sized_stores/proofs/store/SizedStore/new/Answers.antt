use Rattle.sized_stores.proofs.Started.{starts}
use Rattle.sized_stores.proofs.store.SizedStore.new.Goals as goal

pub returns : goal.returns
returns g c = starts g.D.SectorDisk c.args.store c.in-Ok.sizes c.in-Ok.room c.requires.ready c.in-Ok.ensures
