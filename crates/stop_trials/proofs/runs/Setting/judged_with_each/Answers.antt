use Rattle.stop_trials.proofs.Tried.{five_stand}
use Rattle.stop_trials.proofs.runs.Setting.judged_with_each.Goals as goal

pub returns : goal.returns
returns c =
    five_stand c.args.states.now c.args.acknowledged c.args.device.now c.in_ok-old.old c.in_ok-zeros.zeros c.in_ok-ones.ones c.in_ok-half.half c.in_ok-whole.whole
    c.in_ok-old.ensures c.in_ok-zeros.ensures c.in_ok-ones.ensures c.in_ok-half.ensures c.in_ok-whole.ensures
