use Rattle.{disk_model.specs.SimDisk.{sectors_in, sector_of}, stores.specs.declared.faults.OpenFault.TheVariants.{BadLayout}, stop_trials.proofs.Tried.{is_refused, judged_store, judged_layout}}
use Rattle.stop_trials.proofs.runs.Setting.judged.Goals as goal

pub returns-in-Ok : goal.returns-in-Ok
returns-in-Ok c =
    judged_store c.args.states.now c.args.acknowledged c.args.device.now c.in_ok-left.left c.args.filling c.as_slice.result.now c.in-Ok.bytes.items _
    c.as_slice.ensures.value c.in_ok-left.ensures.size c.in_ok-left.ensures.bytes c.in-Ok.ensures.bytes c.msyncs_standing.ensures.found c.msyncs_standing.ensures.none

pub returns-in-Err-Open-BadLayout : goal.returns-in-Err-Open-BadLayout
returns-in-Err-Open-BadLayout c =
    let told = c.in-Err-Open-BadLayout in
    let left = c.in_ok-left.left in
    judged_layout c.args.states.now c.args.acknowledged c.args.device.now left c.args.filling c.in_ok-left.ensures.size c.in_ok-left.ensures.bytes
    (is_refused (sectors_in left) (sector_of left) told.field-0 told.field-0-0 BadLayout told.field-0-is told.field-0-0-is told.ensures.refused)
