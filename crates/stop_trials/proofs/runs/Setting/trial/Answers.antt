use Rattle.{std.proofs.Common.{refl, ap, ◌∙◌}, stop_trials.{proofs.Tried.{each_at}, specs.Lines.{acknowledged_in}}}
use Rattle.stop_trials.proofs.runs.Setting.trial.Goals as goal

pub returns-clause-found : goal.returns-clause-found
returns-clause-found c = record {
  is = refl;
  of = refl;
  replies = c.in_ok-ran.ran.replies.items;
  device = c.in_ok-ran.ran.device;
  ran = c.in_ok-ran.ensures.is;
  at = c.in-Some.ensures.told.0;
  stopped = c.in-Some.ensures.told.1;
  acknowledged = c.acknowledged_in-acknowledged.ensures ∙ ap (acknowledged_in c.args.self.now.commands.now) c.as_slice.ensures.value;
  each = each_at c.args.states.now c.acknowledged_in-acknowledged.result c.disk.result.now c.in_ok-ran.ran.device.disk c.in_ok-standing.standing c.disk.ensures c.in_ok-standing.ensures;
}

pub returns-in_default-clause-none : goal.returns-in_default-clause-none
returns-in_default-clause-none c = record {
  replies = c.in_ok-ran.ran.replies.items;
  device = c.in_ok-ran.ran.device;
  ran = c.in_ok-ran.ensures.is;
  unstopped = λ stop. let told = c.in_default.ensures.none stop in let is = c.in_default.is in cc;
}
