use Rattle.pool_store.proofs.Names.{ℕ, List, sym, subst, ◌∙◌, ap, rules, on_ok_weaker, once_named, once_still, Image}
use Rattle.file_store.{specs.Format.{IsKindSector}}
use Rattle.sync_journal.proofs.{Gates.{sector_run}, Runs.{and_no_write}}
use Rattle.directories.specs.Kinds.{IsKind}
use Rattle.pool_store.specs.Format.{new_pages}
use Rattle.pool_store.proofs.formatting.write_kind.Goals as goal

pub returns-in_err-write : goal.returns-in_err-write
returns-in_err-write g c =
    let d = g.D.SectorDisk in
    let old = c.args.disk.now in
    let mid = c.write.new.self in
    let w = c.write.ensures in
    let run = sector_run d 1 old mid w.size w.kept w.cause.later w.others w.unsynced w.time in
    let once = once_named IsKindSector IsKindSector (d.asked old) (d.asked mid) (λ k here. here) w.asks in
    search rules

pub returns : goal.returns
returns g c =
    let d = g.D.SectorDisk in
    let old = c.args.disk.now in
    let mid = c.write.new.self in
    let new = c.sync.new.self in
    let w = c.in_ok-write.ensures in
    let s = c.sync.ensures in
    let run = sector_run d 1 old mid w.size w.kept w.cause.later w.others w.unsynced w.time in
    record {
      synced = s.synced;
      writes = record {
        done = λ keeps. on_ok_weaker c.sync.result (λ calm. subst (λ (sector : List ℕ). IsKind c.args.blocks new_pages sector) (sym (ap (λ (f : Image). f 1) (s.same keeps) ∙ w.written (s.kept keeps))) c.to_sector.ensures) s.cause.calm;
        run = and_no_write d IsKindSector old mid new run s.size s.kept s.cause.later s.same s.unsynced s.time;
        once = once_still IsKindSector (d.asked old) (d.asked mid) (d.asked new) (once_named IsKindSector IsKindSector (d.asked old) (d.asked mid) (λ k here. here) w.asks) s.asks;
        failed = search rules;
        calm = search rules;
      };
    }
