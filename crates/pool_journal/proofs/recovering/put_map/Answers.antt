use Rattle.std.proofs.Common.{◌∙◌, ap, rules}
use Rattle.std.proofs.lemmas.Result.{on_ok_weaker}
use Rattle.disk_model.proofs.Naming.{once_still}
use Rattle.disk_model.specs.Stop.{Image}
use Rattle.pool_journal.specs.{Blocks.{IsNotedMap}, Maps.{entries_of}, Pools.{pool_entry, IsPoolMap}}
use Rattle.sync_journal.proofs.Runs.{and_no_write}
use Rattle.pool_journal.proofs.recovering.put_map.Goals as goal

pub returns : goal.returns
returns g c =
    let d = g.D.SectorDisk in
    let m = c.args.sizes.blocks in
    let n = c.args.sizes.homes in
    let old = c.args.disk.now in
    let mid = c.write_map.new.disk in
    let new = c.sync.new.self in
    let w = c.in_ok-write_map.ensures in
    let s = c.sync.ensures in
    record {
      synced = s.synced;
      writes = record {
        done = λ keeps. on_ok_weaker c.sync.result (λ calm body r below. ap (λ (image : Image). pool_entry m n c.args.second image body r) (s.same keeps) ∙ w.done (s.kept keeps) body r below) s.cause.calm;
        run = and_no_write d (IsPoolMap m c.args.second) old mid new w.run s.size s.kept s.cause.later s.same s.unsynced s.time;
        once = once_still (IsNotedMap m c.args.second (entries_of c.args.map.now)) (d.asked old) (d.asked mid) (d.asked new) w.once s.asks;
        failed = search rules;
        calm = search rules;
      };
    }
