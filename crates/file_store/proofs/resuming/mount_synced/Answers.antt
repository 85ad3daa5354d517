use Rattle.file_store.proofs.{Causes.{is_this}, Mounted.{head_refuses, journal_refuses, mounts_head, mounts, mounted}, Openings.{still_synced}, Names.{◌≤◌, ℕ, sym, subst, IfErr, asks_once, first_home_sector, Two}}
use Rattle.file_store.specs.{Faults.{open_fault}, Opened.{IsRefusedFor}, Standing.{IsHeadIn}}
use Rattle.file_store.proofs.resuming.mount_synced.Goals as goal

-- mark or directory can't be read, or are bad
pub returns-in_err-directory-clause-run : goal.returns-in_err-directory-clause-run
returns-in_err-directory-clause-run g c = mounts_head g.D.SectorDisk c.args.disk.now c.read_layout.new.disk c.read_layout.ensures.looks.run
    (λ k image left. g.met.D.SectorDisk.only_now c.args.disk.now image k left)
    (asks_once g.D.SectorDisk (IsHeadIn Two) (IsHeadIn Two) c.args.disk.now c.read_layout.new.disk (λ s at. at) c.read_layout.ensures.once)

pub returns-in_err-directory-clause-err : goal.returns-in_err-directory-clause-err
returns-in_err-directory-clause-err g c =
    let d = g.D.SectorDisk in
    let fault = c.in_err-directory.field-0.0 in
    subst (λ r. IfErr r (λ e. IsRefusedFor d c.args.disk.now e c.read_layout.new.disk)) (sym (is_this c.from_residual.result fault c.from_residual.ensures.1))
    (head_refuses d fault c.args.disk.now c.read_layout.new.disk c.in_err-directory.ensures.looks)

-- and then the recovery
pub recover_synced-requires : goal.recover_synced-requires
recover_synced-requires g c =
    let run = c.read_layout.ensures.looks.run in
    record {
      room = subst (λ (n : ℕ). first_home_sector ≤ n) (sym run.size) c.in_ok-directory.ensures.room;
      synced = λ k. still_synced g.D.SectorDisk c.args.disk.now c.read_layout.new.disk (run.touches k) (c.requires.synced (run.kept k));
    }

pub returns-in_err-recover_synced-clause-run : goal.returns-in_err-recover_synced-clause-run
returns-in_err-recover_synced-clause-run g c =
    mounts g.D.SectorDisk c.args.disk.now c.read_layout.new.disk c.read_layout.ensures.looks.run (λ k image left. g.met.D.SectorDisk.only_now c.args.disk.now image k left)
    (asks_once g.D.SectorDisk (IsHeadIn Two) (IsHeadIn Two) c.args.disk.now c.read_layout.new.disk (λ s at. at) c.read_layout.ensures.once) c.recover_synced.new.disk c.recover_synced.ensures

pub returns-in_err-recover_synced-clause-err : goal.returns-in_err-recover_synced-clause-err
returns-in_err-recover_synced-clause-err g c =
    let d = g.D.SectorDisk in
    let r = c.in_err-recover_synced.field-0.0 in
    subst (λ r. IfErr r (λ fault. IsRefusedFor d c.args.disk.now fault c.recover_synced.new.disk)) (sym (is_this c.from_residual-in_err-recover_synced.result (open_fault r) c.from_residual-in_err-recover_synced.ensures.1))
    (journal_refuses d c.args.disk.now c.read_layout.new.disk c.read_layout.ensures.looks.run r c.recover_synced.new.disk c.in_ok-directory.ensures.looks.calm c.in_ok-directory.ensures.good c.in_err-recover_synced.ensures)

pub returns-clause-run : goal.returns-clause-run
returns-clause-run g c =
    mounts g.D.SectorDisk c.args.disk.now c.read_layout.new.disk c.read_layout.ensures.looks.run (λ k image left. g.met.D.SectorDisk.only_now c.args.disk.now image k left)
    (asks_once g.D.SectorDisk (IsHeadIn Two) (IsHeadIn Two) c.args.disk.now c.read_layout.new.disk (λ s at. at) c.read_layout.ensures.once) c.recover_synced.new.disk c.recover_synced.ensures

pub returns-clause-ok : goal.returns-clause-ok
returns-clause-ok g c =
    let layout = c.in_ok-directory.ensures in
    mounted g.D.SectorDisk c.args.disk.now c.read_layout.new.disk c.read_layout.ensures.looks.run c.recover_synced.new.disk c.read_layout.new.sector c.in_ok-directory.directory _
    layout.room layout.looks.calm layout.found layout.good c.in_ok-recover_synced.ensures
