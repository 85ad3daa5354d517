use Rattle.sync_plans.proofs.{Growth.{time, pages_hold, pages_change, pages_unsynced_by, pages_marked, pages_still}, Lost.{same_content, puts_none}, Names.{ap, arith, rules, IsOfPages}}
use Rattle.sync_plans.specs.{PlanDisk.{pages_of}, Plans.{row}}
use Rattle.sync_plans.proofs.plan_disk.PlanDisk.put_zeros.Goals as goal

pub returns-in-Ok : goal.returns-in-Ok
returns-in-Ok c =
    let pages = pages_of c.args.self.now in
    let first = row c.args.self.now.image.now in
    let listed = c.in-Ok.ensures.lists in
    let keeps = c.list.ensures.keeps in
    record {
      written = rw (keeps.image, keeps.lent) (pages_hold pages first listed (omega arith));
      others = rw (keeps.image, keeps.lent) (pages_change pages first listed (omega arith));
      puts = record {
        unsynced = pages_unsynced_by pages first listed (omega arith);
        marked = pages_marked pages first listed (omega arith);
        still = pages_still pages first listed (omega arith);
        time = rw (keeps.image, keeps.lent, keeps.room) (time pages first listed c.args.self.now.room);
        full = search rules;
        keeps = search rules;
        cause = search rules;
      };
    }

pub returns-in-Err : goal.returns-in-Err
returns-in-Err c =
    let same = same_content _ c.list.new.self c.in-Err.ensures.unlisted c.list.ensures.keeps in
    let none = puts_none _ c.list.new.self c.in-Err.ensures.unlisted c.list.ensures.keeps (IsOfPages c.args.n c.args.pages) c.in-Err.fault c.in-Err.ensures.full (search rules) in
    record {
      written = search rules;
      others = record { others = λ k other. ap (λ f. f k) same };
      puts = record {
        unsynced = none.unsynced;
        marked = search rules;
        still = none.still;
        time = none.time;
        full = none.full;
        keeps = search rules;
        cause = none.cause;
      };
    }
