use Rattle.sync_plans.proofs.Names.{ℕ, List, ◌≡◌, ◌+◌, ◌-◌, ◌∙◌, length, ap, arith, refl, rules, part_of}
use Rattle.sync_plans.proofs.plan_disk.PlanDisk.named.Goals as goal

pub returns-in-Some-clause-sources : goal.returns-in-Some-clause-sources
returns-in-Some-clause-sources c =
    record {
      kind = (omega arith, omega arith);
      sector = refl;
      bytes = λ i lt. let e : c.args.n + i - c.args.n ≡ i = omega arith in rw e (ap (λ (page : List ℕ). part_of page i) c.in-Some.ensures.1);
    }

pub returns-in-Some-clause-listable : goal.returns-in-Some-clause-listable
returns-in-Some-clause-listable c =
    record {
      is = search rules;
      lent = λ _. ap length c.in-Some.ensures.1 ∙ c.told-page;
      unwritten = search rules;
    }
