use Rattle.{std.proofs.Common.{subst, sym}, stop_trials.specs.Runs.{AreStates}}
use Rattle.disk_model.specs.contracts.sim_disk.SimDiskSectorDisk.TheImpl as Sim
use Rattle.stop_trials.proofs.runs.Setting.try_stops.Goals as goal

pub returns : goal.returns
returns g c = (c.as_slice.result.now, subst (AreStates Sim.ghosts c.args.self.now) (sym c.as_slice.ensures.value) c.in_ok-states.ensures, c.in_ok-summary.ensures)
