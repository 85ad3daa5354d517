use Rattle.stores.proofs.Looked.{still_most, still_stands}
use Rattle.stores.proofs.opening.stops_in_a_row.Goals as goal

pub returns-clause-stands : goal.returns-clause-stands
returns-clause-stands g c = still_stands g.D.SectorDisk

pub returns-clause-most : goal.returns-clause-most
returns-clause-most g c = still_most g.D.SectorDisk
