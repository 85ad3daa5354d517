use Rattle.sync_plans.proofs.{Growth.{not_written, not_written_behind}, Names.{⊎_elim, arith}}
use Rattle.sync_plans.proofs.plan_disk.PlanDisk.untouched_with.Goals as goal

pub returns-clause-written : goal.returns-clause-written
returns-clause-written c = λ n low high.
    let s = c.args.self.now in
    let end = c.saturating_add-end.ensures in
    let below = c.without.ensures.high in
    let bounded = s.bounded in
    ⊎_elim (not_written c.args.call n)
    (λ behind. not_written_behind c.args.call n
    (λ one. let long = c.written_sectors.ensures.one one in omega (arith, behind, high, long, end, below, bounded))
    (λ paged. let long = c.written_sectors.ensures.pages paged in omega (arith, behind, high, long, end, below, bounded)))
    (c.without.ensures.out n low high)
