use Rattle.sync_journal.{proofs.{Names.{length, rules, once_still}, Runs.{and_no_write}}, specs.{Layout.{IsHomeSector, IsCopied}}}
use Rattle.sync_journal.proofs.homes.copy_homes.Goals as goal

pub returns : goal.returns
returns g c =
    let d = g.D.SectorDisk in
    let old = c.args.disk.now in
    let mid = c.copy_each.new.disk in
    let new = c.sync.new.self in
    let copied = c.in_ok-copy_each.ensures in
    let s = c.sync.ensures in
    record {
      synced = s.synced;
      writes = record {
        done = search rules;
        run = and_no_write d (IsHomeSector c.args.homes.now) old mid new copied.run s.size s.kept s.cause.later s.same s.unsynced s.time;
        once = once_still (IsCopied c.args.homes.now (length c.args.homes.now)) (d.asked old) (d.asked mid) (d.asked new) copied.once s.asks;
        failed = search rules;
        calm = search rules;
      };
    }
