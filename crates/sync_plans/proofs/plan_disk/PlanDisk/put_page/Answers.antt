use Rattle.sync_plans.proofs.{Growth.{time, page_written, page_changes, page_unsynced_by, page_marked, page_still}, Lost.{same_content, puts_none}, Names.{ap, rules, IsOfPage}}
use Rattle.sync_plans.specs.{PlanDisk.{pages_of}, Plans.{row}}
use Rattle.sync_plans.proofs.plan_disk.PlanDisk.put_page.Goals as goal

pub returns-in-Ok : goal.returns-in-Ok
returns-in-Ok c =
    let pages = pages_of c.args.self.now in
    let first = row c.args.self.now.image.now in
    let listed = c.in-Ok.ensures.lists in
    let keeps = c.list.ensures.keeps in
    let names = c.requires.names in
    record {
      written = rw (keeps.image, keeps.lent) (page_written pages first listed c.args.from.now names);
      others = rw (keeps.image, keeps.lent) (page_changes pages first listed c.args.from.now names);
      puts = record {
        unsynced = page_unsynced_by pages first listed c.args.from.now names;
        marked = page_marked pages first listed c.args.from.now names;
        still = page_still pages first listed c.args.from.now names;
        time = rw (keeps.image, keeps.lent, keeps.room) (time pages first listed c.args.self.now.room);
        full = search rules;
        keeps = search rules;
        cause = search rules;
      };
    }

pub returns-in-Err : goal.returns-in-Err
returns-in-Err c =
    let same = same_content _ c.list.new.self c.in-Err.ensures.unlisted c.list.ensures.keeps in
    let none = puts_none _ c.list.new.self c.in-Err.ensures.unlisted c.list.ensures.keeps (IsOfPage c.args.call.sector) c.in-Err.fault c.in-Err.ensures.full (search rules) in
    record {
      written = search rules;
      others = record { others = λ k other. ap (λ f. f k) same };
      puts = record {
        unsynced = none.unsynced;
        marked = search rules;
        still = none.still;
        time = none.time;
        full = none.full;
        keeps = search rules;
        cause = none.cause;
      };
    }
