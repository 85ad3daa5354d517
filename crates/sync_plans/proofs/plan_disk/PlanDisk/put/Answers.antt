use Rattle.sync_plans.{proofs.{Growth.{time, changes, unsynced_by, still_unsynced}, Lost.{same_content, puts_none}, Names.{◌≡◌, refl, ap, rules}}, specs.{PlanDisk.{pages_of}, Plans.{row}}}
use Rattle.sync_plans.proofs.plan_disk.PlanDisk.put.Goals as goal

pub returns-in-Ok : goal.returns-in-Ok
returns-in-Ok c =
    let pages = pages_of c.args.self.now in
    let first = row c.args.self.now.image.now in
    let listed = c.in-Ok.ensures.lists in
    let keeps = c.list.ensures.keeps in
    record {
      written = search rules;
      others = rw (keeps.image, keeps.lent) (changes pages first listed c.args.n refl);
      failed = search rules;
      puts = record {
        unsynced = unsynced_by pages first listed c.args.n refl;
        marked = λ k is. search rules;
        still = still_unsynced pages first listed c.args.n refl;
        time = rw (keeps.image, keeps.lent, keeps.room) (time pages first listed c.args.self.now.room);
        full = search rules;
        keeps = keeps;
        cause = search rules;
      };
    }

pub returns-in-Err : goal.returns-in-Err
returns-in-Err c =
    let same = same_content c.args.self.now c.list.new.self c.in-Err.ensures.unlisted c.list.ensures.keeps in
    record {
      written = search rules;
      others = record { others = λ k other. ap (λ f. f k) same };
      failed = same;
      puts = puts_none c.args.self.now c.list.new.self c.in-Err.ensures.unlisted c.list.ensures.keeps (λ k. k ≡ c.args.n) c.in-Err.fault c.in-Err.ensures.full (search rules);
    }
