use Rattle.sync_journal.{proofs.{Causes.{is_error, not_bad_device, blames_device}, Names.{refl, Nothing, asks_none}, OneRecoveries.{looked, after_sync}, Runs.{no_write}}, specs.Standing.{IsAskedIn}}
use Rattle.sync_journal.proofs.recovery.recover.Goals as goal

pub returns-in_err-sync : goal.returns-in_err-sync
returns-in_err-sync g c =
    let d = g.D.SectorDisk in
    let s = c.sync.ensures in
    let old = c.args.disk.now in
    let new = c.sync.new.self in
    looked d old new (λ k image left. g.met.D.SectorDisk.only_now old image k left) (no_write d Nothing old new s.size s.kept s.cause.later s.same s.unsynced s.time)
    _ (is_error _ _ c.from_residual.ensures.1) (λ keeps. asks_none d (IsAskedIn (d.content old)) old new s.asks)
    (blames_device d old new _ c.from_residual.ensures.1 (c.in_err-sync.ensures.cause.failed refl)) (λ keeps is. absurd (not_bad_device _ c.from_residual.ensures.1 is))

pub returns : goal.returns
returns g c =
    let d = g.D.SectorDisk in
    let s = c.sync.ensures in
    let old = c.args.disk.now in
    let mid = c.sync.new.self in
    after_sync d old mid (λ k image left. g.met.D.SectorDisk.only_now old image k left) (no_write d Nothing old mid s.size s.kept s.cause.later s.same s.unsynced s.time)
    c.recover_synced.new.disk s.same s.asks c.in_ok-sync.ensures.synced c.in_ok-sync.ensures.cause.calm c.recover_synced.result c.recover_synced.ensures
