use Rattle.stop_trials.proofs.States.{AreFirstStates}
use Rattle.disk_model.specs.contracts.sim_disk.SimDiskSectorDisk.TheImpl as Sim
use Rattle.stop_trials.proofs.runs.Setting.states.Given as goal

abbrev pub invariant-loop-i : goal.invariant-loop-i
invariant-loop-i l = AreFirstStates Sim.ghosts l.self l.reply-items l.i l.states.items
