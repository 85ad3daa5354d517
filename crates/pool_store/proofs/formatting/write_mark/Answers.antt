use Rattle.pool_store.proofs.Names.{◌∙◌, ap, rules, on_ok_weaker, once_named, once_still, Image}
use Rattle.file_store.{specs.Format.{IsMarkSector}}
use Rattle.sync_journal.proofs.{Gates.{sector_run}, Runs.{and_no_write}}
use Rattle.pool_store.proofs.formatting.write_mark.Goals as goal

pub returns-in_err-write : goal.returns-in_err-write
returns-in_err-write g c =
    let d = g.D.SectorDisk in
    let old = c.args.disk.now in
    let mid = c.write.new.self in
    let w = c.write.ensures in
    let run = sector_run d 0 old mid w.size w.kept w.cause.later w.others w.unsynced w.time in
    let once = once_named IsMarkSector IsMarkSector (d.asked old) (d.asked mid) (λ k here. here) w.asks in
    search rules

pub returns : goal.returns
returns g c =
    let d = g.D.SectorDisk in
    let old = c.args.disk.now in
    let mid = c.write.new.self in
    let new = c.sync.new.self in
    let w = c.in_ok-write.ensures in
    let s = c.sync.ensures in
    let run = sector_run d 0 old mid w.size w.kept w.cause.later w.others w.unsynced w.time in
    record {
      synced = s.synced;
      writes = record {
        done = λ keeps. on_ok_weaker c.sync.result (λ calm. ap (λ (f : Image). f 0) (s.same keeps) ∙ w.written (s.kept keeps) ∙ c.pool_mark.ensures) s.cause.calm;
        run = and_no_write d IsMarkSector old mid new run s.size s.kept s.cause.later s.same s.unsynced s.time;
        once = once_still IsMarkSector (d.asked old) (d.asked mid) (d.asked new) (once_named IsMarkSector IsMarkSector (d.asked old) (d.asked mid) (λ k here. here) w.asks) s.asks;
        failed = search rules;
        calm = search rules;
      };
    }
