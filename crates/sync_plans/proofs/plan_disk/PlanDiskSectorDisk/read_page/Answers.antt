use Rattle.sync_plans.{proofs.Names.{◌≡◌, ◌<◌, ◌+◌, ◌*◌, ◌-◌, length, ⊎_elim, sym, ap, subst, ◌∙◌, arith, rules, cases_eq, put_mid, part_of, put_here, put_there, length_put, no_time}, specs.PlanDisk.{content_of, plan_moment, left_in, unsynced_in}}
use Rattle.sync_plans.proofs.plan_disk.PlanDiskSectorDisk.read_page.Goals as goal

pub loop-i-preserved : goal.loop-i-preserved
loop-i-preserved c =
    let d = c.args.self.now in
    let inv = c.loop-i.invariant in
    let i = c.loop-i.i in
    let k = 512 * i + 512 - 512 * i in
    let put = c.copy_from_slice.new.self in
    let sector : length c.held-sector.result.now ≡ 512 = search rules in
    let after : put ≡ c.held-sector.result.now = c.copy_from_slice.ensures.after in
    let long : length put ≡ 512 = ap length after ∙ sector in
    let below : i < 8 = c.loop-i-test.true in
    let given : c.held-sector.result.now ≡ content_of d (c.args.n + i) = c.held-sector.ensures in
    record {
      long = length_put c.loop-i.to put (512 * i) k (omega (arith, inv.long, below)) (omega (arith, long)) ∙ inv.long;
      gives = λ j less. ⊎_elim
          (λ here. subst (λ m. part_of (put_mid (512 * i) k c.loop-i.to put) m ≡ content_of d (c.args.n + m)) (sym here)
          (put_here c.loop-i.to put i k inv.long long below ∙ after ∙ given))
          (λ other. put_there c.loop-i.to put i j k inv.long long below (omega (arith, less, other)) ∙ inv.gives j (omega (arith, less, other)))
          (cases_eq j i);
    }

pub returns-clause-time : goal.returns-clause-time
returns-clause-time c = λ _. let s = c.args.self.now in no_time (plan_moment s) (left_in s) (content_of s) (unsynced_in s)
