use Rattle.sync_journal.proofs.Stops.{still_stands}
use Rattle.sync_journal.proofs.recovery.stops_in_a_row.Goals as goal

pub returns : goal.returns
returns g c = λ sectors n first last row. still_stands g.D.SectorDisk sectors n first last row
