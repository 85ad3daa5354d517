use Rattle.{std.proofs.Common.{◌≡◌, length, rules}, stop_trials.proofs.States.{overwritten, whole_run}}
use Rattle.disk_model.specs.contracts.sim_disk.SimDiskSectorDisk.TheImpl as Sim
use Rattle.stop_trials.proofs.runs.Setting.whole_run.Goals as goal

pub returns-in-Ok-clause-is : goal.returns-in-Ok-clause-is
returns-in-Ok-clause-is c =
    let start = c.in_ok-store.ensures in
    let long : length c.live.new.replies ≡ c.in_ok-replies.replies.len = search rules in
    whole_run Sim.ghosts c.args.self.now c.args.commands.now _ c.live.new.replies c.in_ok-store.store c.into_store.result c.in-Ok.machine
    (overwritten c.in_ok-replies.replies.len c.live.new.replies _ long) start.fresh start.size start.bytes c.in-Ok.ensures.room (c.in-Ok.ensures.lived tt tt) c.into_store.ensures
