use Rattle.std.proofs.Common.{arith, sym, ap, ◌∙◌}
use Rattle.std.specs.Prelude.{is_some}
use Rattle.vm_types.specs.Limits.{user_start, user_end}
use Rattle.truncation.proofs.Cleared.{process_starts, process_on, process_ends}
use Rattle.truncation.proofs.clearing.clear_process.Goals as goal

pub loop-run-init : goal.loop-run-init
loop-run-init g c = record { low = omega arith; done = process_starts c.args.file c.args.length c.args.core.now c.args.pid user_start c.requires.fit }

pub clear_run-requires : goal.clear_run-requires
clear_run-requires g c =
    let done = c.loop-run.invariant.done in
    let next = c.in-Some.ensures.some in
    record {
      fit = done.more.fit;
      live = ap is_some (done.more.some.maps.root c.args.pid) ∙ c.requires.live;
      low = next.low;
      some = next.nonempty;
      high = next.high;
      mapped = λ k from below. sym (c.regions.ensures k) ∙ next.mapped k from below;
    }

pub loop-run-preserved : goal.loop-run-preserved
loop-run-preserved g c =
    let k = c.loop-run.invariant in
    let next = c.in-Some.ensures.some in
    let run = c.in-Some.run' in
    record {
      low = (let low = next.low in let some = next.nonempty in omega (arith, low, some));
      done = process_on c.args.file c.args.length c.args.core.now c.loop-run.core c.clear_run.new.core c.args.pid user_start c.loop-run.page run.first run.end k.done
          (λ j from below. sym (c.regions.ensures j) ∙ next.none_before j from below) c.clear_run.ensures;
    }

pub returns : goal.returns
returns g c =
    process_ends c.args.file c.args.length c.args.core.now c.loop-run.core c.args.pid user_start c.loop-run.page (user_end g.M.Levels.mode) c.loop-run.invariant.done
    (λ j from. sym (c.regions.ensures j) ∙ c.in_default.ensures.none j from)
