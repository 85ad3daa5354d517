use Rattle.{std.proofs.Common.{◌≡◌, ◌-◌, Some, refl, arith}, stop_trials.proofs.Tried.{none_tried, one_tried}}
use Rattle.disk_model.specs.contracts.sim_disk.SimDiskSectorDisk.TheImpl as Sim
use Rattle.stop_trials.specs.contracts.stopping.StoppingDiskSectorDisk.TheImpl as Stopping
use Rattle.stop_trials.proofs.runs.Setting.tried.Goals as goal

pub loop-i-init : goal.loop-i-init
loop-i-init g c = record { tried = none_tried Stopping.ghosts Sim.ghosts c.args.self.now c.args.states.now c.args.every _ refl refl; next = refl }

pub loop-i-preserved : goal.loop-i-preserved
loop-i-preserved g c =
    let some : c.in_ok-judged.judged ≡ Some c.in-Some.found = cc in
    let next = c.loop-i.invariant.next in
    let stops = c.add.ensures.stops in
    record {
      tried = one_tried Stopping.ghosts Sim.ghosts c.args.self.now c.args.states.now c.args.every c.loop-i.i c.saturating_mul-number.result c.loop-i.summary c.add.new.self c.in_ok-judged.judged
          c.in-Some.found c.loop-i.invariant.tried next c.loop-i-test.true c.saturating_mul-number.ensures some c.in_ok-judged.ensures.found stops c.add.ensures.none c.add.ensures.good;
      next = omega (arith, next, stops, c.loop-i-test.true);
    }
