use Rattle.sync_journal.proofs.{Gates.{sector_run}, Names.{rules, once_named, once_still}, Runs.{and_no_write}}
use Rattle.sync_journal.specs.Layout.{gate_sector, IsGate}
use Rattle.sync_journal.proofs.gate.write_gate.Goals as goal

pub returns-in_err-write : goal.returns-in_err-write
returns-in_err-write g c =
    let once = once_named IsGate IsGate (g.D.SectorDisk.asked c.args.disk.now) (g.D.SectorDisk.asked c.write.new.self) (λ k here. here) c.write.ensures.asks in
    search rules

pub returns : goal.returns
returns g c =
    let d = g.D.SectorDisk in
    let old = c.args.disk.now in
    let mid = c.write.new.self in
    let new = c.sync.new.self in
    let w = c.in_ok-write.ensures in
    let s = c.sync.ensures in
    let run = sector_run d gate_sector old mid w.size w.kept w.cause.later w.others w.unsynced w.time in
    let once = once_still IsGate (d.asked old) (d.asked mid) (d.asked new) (once_named IsGate IsGate (d.asked old) (d.asked mid) (λ k here. here) w.asks) s.asks in
    record { synced = s.synced; writes = record { done = search rules; run = and_no_write d IsGate old mid new run s.size s.kept s.cause.later s.same s.unsynced s.time; once = once; failed = search rules; calm = search rules } }
