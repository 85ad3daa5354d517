use Rattle.sync_plans.{proofs.{Lost.{more_kept}, Names.{◌≡◌, ◌<◌, ◌+◌, ⊎_elim, inl, inr, refl, sym, ap, subst, ◌∙◌, arith, rules, cases_eq, part_of, more_time, carried}}, specs.PlanDisk.{content_of, listed_unsynced, listed_left, plan_moment}}
use Rattle.sync_plans.proofs.plan_disk.PlanDisk.put_sectors.Goals as goal

pub loop-i-preserved : goal.loop-i-preserved
loop-i-preserved c =
    let old = c.args.self.now in
    let mid = c.loop-i.self in
    let new = c.put.new.self in
    let w = c.put.ensures in
    let inv = c.loop-i.invariant in
    let i = c.loop-i.i in
    let at = c.args.n + i in
    let below : i < 8 = let len = c.parts-sector-items.ensures.len in omega (arith, c.loop-i-test.true, len) in
    record {
      keeps = more_kept old mid new inv.keeps w.keeps;
      calm = c.in_ok-put.ensures.cause.calm ∙ inv.calm;
      written = λ j less. ⊎_elim
          (λ same. subst (λ m. content_of new (c.args.n + m) ≡ part_of c.args.from.now m) (sym same)
          (c.in_ok-put.ensures.written ∙ c.parts-sector-items.ensures.each i (let len = c.parts-sector-items.ensures.len in omega (arith, c.loop-i-test.true, len))))
          (λ other. w.others.others (c.args.n + j) (λ e. other (omega (arith, e))) ∙ inv.written j (omega (arith, less, other)))
          (cases_eq j i);
      others = record { others = λ m out. w.others.others m (λ e. out (omega (arith, e), omega (arith, e, below))) ∙ inv.others.others m out };
      unsynced = λ m u. ⊎_elim (inv.unsynced m) (λ e. inr (omega (arith, e), omega (arith, e, below))) (w.unsynced m u);
      marked = λ m from less. ⊎_elim (λ here. c.in_ok-put.ensures.marked m here) (λ other. w.still m (inv.marked m from (omega (arith, less, other)))) (cases_eq m at);
      still = λ m u. w.still m (inv.still m u);
      time = more_time (plan_moment old) (plan_moment mid) (plan_moment new) (listed_left old) (listed_left mid) (listed_left new) (content_of mid) (content_of new) (listed_unsynced mid) (listed_unsynced new)
          inv.time w.time (carried at (content_of mid) (content_of new) (listed_unsynced mid) (listed_unsynced new) w.others w.still (c.in_ok-put.ensures.marked at refl));
    }

pub returns-in_err-put : goal.returns-in_err-put
returns-in_err-put c =
    let old = c.args.self.now in
    let mid = c.loop-i.self in
    let new = c.put.new.self in
    let w = c.put.ensures in
    let inv = c.loop-i.invariant in
    let i = c.loop-i.i in
    let same = c.in_err-put.ensures.failed in
    record {
      written = search rules;
      others = record { others = λ m out. ap (λ f. f m) same ∙ inv.others.others m out };
      puts = record {
        unsynced = λ m u. ⊎_elim (inv.unsynced m) (λ e. let below : i < 8 = let len = c.parts-sector-items.ensures.len in omega (arith, c.loop-i-test.true, len) in inr (omega (arith, e), omega (arith, e, below))) (w.unsynced m u);
        marked = search rules;
        still = λ m u. w.still m (inv.still m u);
        time = more_time (plan_moment old) (plan_moment mid) (plan_moment new) (listed_left old) (listed_left mid) (listed_left new) (content_of mid) (content_of new) (listed_unsynced mid) (listed_unsynced new)
            inv.time w.time (λ image may. record { kept = λ k. ⊎_elim (λ u. inl (w.still k u)) (λ e. inr (e ∙ sym (ap (λ f. f k) same))) (may.kept k) });
        full = search rules;
        keeps = more_kept old mid new inv.keeps w.keeps;
        cause = search rules;
      };
    }
