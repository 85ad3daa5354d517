use Rattle.{std.proofs.Common.{◌≡◌, length, rules}, stop_trials.proofs.States.{lived_run, overwritten, stopped_run}}
use Rattle.disk_model.specs.contracts.sim_disk.SimDiskSectorDisk.TheImpl as Sim
use Rattle.stop_trials.specs.contracts.stopping.StoppingDiskSectorDisk.TheImpl as Stopping
use Rattle.stop_trials.proofs.runs.Setting.run.Goals as goal

pub returns-in-Ok-clause-is : goal.returns-in-Ok-clause-is
returns-in-Ok-clause-is c =
    let devices = c.in_ok-devices.devices in
    let long : length c.live.new.replies ≡ c.in_ok-replies.replies.len = search rules in
    lived_run Stopping.ghosts Sim.ghosts c.args.self.now c.args.stop _ c.live.new.replies devices.store c.into_store.result devices.swap c.in-Ok.machine
    (overwritten c.in_ok-replies.replies.len c.live.new.replies _ long) c.in_ok-devices.ensures c.in-Ok.ensures.room c.in-Ok.ensures.lived c.into_store.ensures

pub returns-in-Err-Device-default-clause-is : goal.returns-in-Err-Device-default-clause-is
returns-in-Err-Device-default-clause-is c =
    let devices = c.in_ok-devices.devices in
    let told = c.in-Err-Device-default in
    stopped_run Stopping.ghosts Sim.ghosts c.args.self.now c.args.stop c.new.result.items devices.store told.device devices.swap told.field-0-0 told.field-0-0-is c.in_ok-devices.ensures
    told.ensures.refuses c.new.ensures.items
