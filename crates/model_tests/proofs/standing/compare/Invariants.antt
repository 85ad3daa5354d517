-- The store stays one that may be read.
use Rattle.disk_model.specs.contracts.sim_disk.SimDiskSectorDisk.TheImpl.{ghosts}
use Rattle.stores.specs.Store.{IsReadyStore}
use Rattle.model_tests.proofs.standing.compare.Given as goal

abbrev pub invariant-loop-bytes : goal.invariant-loop-bytes
invariant-loop-bytes g l = IsReadyStore ghosts l.store
