use Rattle.{std.proofs.{Common.{◌≡◌, ◌+◌, ◌<◌, false, is_err, ⊎_elim, sym, ap, subst, ◌∙◌, arith, rules}, lemmas.Bool.{cases_eq}}, disk_model.{proofs.Naming.{names_next}, specs.{Sectors.{part_of}, SimDisk.{sector_of, failures_of}}}}
use Rattle.{disk_model.specs.SimDisk.{asked_of}, stop_trials.{proofs.Writes.{when_ok, ran_before, one_write}, specs.{Stopping.{plan_of, plan_after_event}, declared.stopping.Event.TheVariants.{Write}}}}
use Rattle.stop_trials.proofs.stopping.StoppingDiskSectorDisk.write_page.Goals as goal

pub loop-i-preserved : goal.loop-i-preserved
loop-i-preserved c =
    let mid = c.loop-i.self in
    let new = c.write.new.self in
    let w = c.write.ensures in
    let inv = c.loop-i.invariant in
    let i = c.loop-i.i in
    let told : c.is_err-failed.result ≡ is_err c.write.result = c.is_err-failed.ensures.value in
    let calm_before : c.is_err-failed.result ≡ false → c.loop-i.failed ≡ false = λ calm. ⊎_elim
    inv.begun
    (λ later. inv.fails (omega (arith, later)) ∙ ran_before (Write (c.args.n + i)) (plan_of mid) (plan_of new) w.stops.counted (sym w.stops.fails ∙ sym told ∙ calm))
    (cases_eq i 0) in
    let here : c.is_err-failed.result ≡ false → sector_of new.disk (c.args.n + i) ≡ part_of c.args.from.now i = λ calm.
    when_ok c.write.result _ w.written (sym told ∙ calm)
    ∙ c.parts-sector-items.ensures.each i (let len = c.parts-sector-items.ensures.len in omega (arith, c.loop-i-test.true, len)) in
    record {
      asks = names_next c.args.n i (asked_of c.args.self.now.disk) (asked_of mid.disk) (asked_of new.disk) inv.asks w.asks;
      size = search rules;
      later = search rules;
      caused = λ failed. let more : failures_of mid.disk < failures_of new.disk = w.keeps.cause.failed (sym told ∙ failed) in omega (arith, more, inv.later);
      calm = λ calm. when_ok c.write.result _ w.keeps.cause.calm (sym told ∙ calm) ∙ inv.calm (calm_before calm);
      written = λ calm j less. ⊎_elim
          (λ same. subst (λ m. sector_of new.disk (c.args.n + m) ≡ part_of c.args.from.now m) (sym same) (here calm))
          (λ other. w.changes.others.others (c.args.n + j) (λ e. other (omega (arith, e))) ∙ inv.written (calm_before calm) j (omega (arith, less, other)))
          (cases_eq j i);
      fails = λ some. told ∙ w.stops.fails;
      begun = λ none. absurd (omega (arith, none));
      plan = w.stops.counted ∙ ap (plan_after_event (Write (c.args.n + i))) inv.plan ∙ one_write i c.args.n (plan_of c.args.self.now);
      others = search rules;
      unsynced = search rules;
      marked = search rules;
      still = search rules;
      time = search rules;
    }
