use Rattle.{std.proofs.Common.{◌≡◌, ◌+◌}, stop_trials.specs.Trials.{AreTried}}
use Rattle.disk_model.specs.contracts.sim_disk.SimDiskSectorDisk.TheImpl as Sim
use Rattle.stop_trials.specs.contracts.stopping.StoppingDiskSectorDisk.TheImpl as Stopping
use Rattle.stop_trials.proofs.runs.Setting.tried.Given as goal

abbrev pub invariant-loop-i : goal.invariant-loop-i
invariant-loop-i g l = record { tried : AreTried Stopping.ghosts Sim.ghosts l.self l.states l.every l.summary; next : l.summary.stops + 1 ≡ l.i }
