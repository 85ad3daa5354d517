use Rattle.{std.proofs.{Common.{arith}, lemmas.Grind.{common_steps}}, stop_trials.proofs.States.{ends_with}}
use Rattle.disk_model.specs.contracts.sim_disk.SimDiskSectorDisk.TheImpl as Sim
use Rattle.stop_trials.proofs.runs.Setting.add_state.Goals as goal

pub returns-in-Ok : goal.returns-in-Ok
returns-in-Ok c = (
  c.in_ok-bytes.bytes,
  c.in-Ok.ensures.items,
  ends_with Sim.ghosts c.args.self.now c.args.count c.in_ok-bytes.bytes.items c.in_ok-ran.ran.replies.items c.in_ok-ran.ran.device c.in_ok-left.left _ c.in_ok-ran.ensures.is
      (grind (arith, common_steps)) c.in_ok-left.ensures.size c.in_ok-left.ensures.bytes c.in_ok-bytes.ensures.bytes,
)
