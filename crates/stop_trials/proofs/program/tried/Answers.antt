use Rattle.std.proofs.Common.{rules, map, ap, ◌∙◌, refl}
use Rattle.stop_trials.{proofs.Ends.{same_option, tried_at, commands_at}, specs.Lines.{split_lines}}
use Rattle.disk_model.specs.contracts.sim_disk.SimDiskSectorDisk.TheImpl as Sim
use Rattle.stop_trials.specs.contracts.stopping.StoppingDiskSectorDisk.TheImpl as Stopping
use Rattle.stop_trials.proofs.program.tried.Goals as goal

pub returns-in-Ok-clause-ends : goal.returns-in-Ok-clause-ends
returns-in-Ok-clause-ends g c = record {
  words = c.in_ok-words.words;
  setting = _;
  frames = refl;
  slots = refl;
  layout = refl;
  drops = same_option (λ x y e. e) c.in_ok-words.words.drop c.map.result c.map.ensures.cases;
  store = c.in_ok-image.ensures;
  trace = c.in_ok-trace.trace.items;
  whole = c.in_ok-trace.ensures;
  commands = commands_at _ _ _ _ (ap (map (λ line. line.now)) c.as_slice-2.ensures.value ∙ c.in_ok-lines.ensures ∙ ap split_lines c.as_slice.ensures.value) c.as_slice-3.ensures.value c.in_ok-commands.ensures;
  states = c.in-Ok.ensures.0;
  are = c.in-Ok.ensures.1;
  summary = c.in-Ok.summary;
  tried = tried_at Stopping.ghosts Sim.ghosts _ _ _ c.from.result c.in_ok-words.words.every c.from.ensures c.in-Ok.ensures.2;
  good = search rules;
  bad = search rules;
}

pub invariant_of-setting : goal.invariant_of-setting
invariant_of-setting g c = record { sized = c.in_ok-words.ensures.store }
