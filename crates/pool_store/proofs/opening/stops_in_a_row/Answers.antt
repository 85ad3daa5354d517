use Rattle.pool_store.proofs.Stops.{still_stands}
use Rattle.pool_store.proofs.opening.stops_in_a_row.Goals as goal

pub returns : goal.returns
returns g c = still_stands g.D.SectorDisk
