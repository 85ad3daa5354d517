use Rattle.disk_model.specs.contracts.sim_disk.SimDiskSectorDisk.TheImpl.{ghosts}
use Rattle.msync.specs.Shows.{IsSoundCore}
use Rattle.spaces_tests.proofs.bench.follow_row.Given as goal

abbrev pub invariant-loop-step : goal.invariant-loop-step
invariant-loop-step g l = record {
  sound : IsSoundCore ghosts ghosts l.core;
}
