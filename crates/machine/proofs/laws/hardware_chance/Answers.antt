use Rattle.machine.proofs.HardwareChance.{fetch_chance, load_chance, store_chance}
use Rattle.machine.proofs.laws.hardware_chance.Goals as goal

pub returns-clause-load : goal.returns-clause-load
returns-clause-load g c = load_chance g.D.SectorDisk g.E.SectorDisk

pub returns-clause-fetch : goal.returns-clause-fetch
returns-clause-fetch g c = fetch_chance g.D.SectorDisk g.E.SectorDisk

pub returns-clause-store : goal.returns-clause-store
returns-clause-store g c = store_chance g.D.SectorDisk g.E.SectorDisk
