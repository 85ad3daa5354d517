use Rattle.std.proofs.Common.{◌∙◌, ap, rules}
use Rattle.std.proofs.lemmas.Result.{on_ok_weaker}
use Rattle.disk_model.proofs.Naming.{once_named, once_still}
use Rattle.disk_model.specs.Stop.{Image}
use Rattle.pool_journal.specs.{Gates.{IsPoolGate}, Pools.{pool_gate}}
use Rattle.sync_journal.{proofs.{Gates.{sector_run}, Runs.{and_no_write}}, specs.Gate.{is_open_sector}}
use Rattle.pool_journal.proofs.gate.name_map.Goals as goal

pub returns-in_err-write : goal.returns-in_err-write
returns-in_err-write g c =
    let d = g.D.SectorDisk in
    let old = c.args.disk.now in
    let mid = c.write.new.self in
    let w = c.write.ensures in
    let run = sector_run d pool_gate old mid w.size w.kept w.cause.later w.others w.unsynced w.time in
    let once = once_named IsPoolGate IsPoolGate (d.asked old) (d.asked mid) (λ k here. here) w.asks in
    search rules

pub returns : goal.returns
returns g c =
    let d = g.D.SectorDisk in
    let old = c.args.disk.now in
    let mid = c.write.new.self in
    let new = c.sync.new.self in
    let w = c.in_ok-write.ensures in
    let s = c.sync.ensures in
    let run = sector_run d pool_gate old mid w.size w.kept w.cause.later w.others w.unsynced w.time in
    let once = once_still IsPoolGate (d.asked old) (d.asked mid) (d.asked new) (once_named IsPoolGate IsPoolGate (d.asked old) (d.asked mid) (λ k here. here) w.asks) s.asks in
    record {
      synced = s.synced;
      writes = record {
        done = λ keeps. on_ok_weaker c.sync.result (λ calm. ap (λ (f : Image). is_open_sector (f pool_gate)) (s.same keeps) ∙ ap is_open_sector (w.written (s.kept keeps)) ∙ c.gate_bytes.ensures) s.cause.calm;
        run = and_no_write d IsPoolGate old mid new run s.size s.kept s.cause.later s.same s.unsynced s.time;
        once = once;
        failed = search rules;
        calm = search rules;
      };
    }
