use Rattle.std.proofs.Common.{◌∙◌, refl, arith, rules}
use Rattle.disk_model.proofs.Naming.{once_none}
use Rattle.disk_model.specs.{Moments.{Nothing}}
use Rattle.pool_journal.proofs.Recovered.{asked_since, named_since, given_since, looked, settled, turned, recovered}
use Rattle.sync_journal.{proofs.{Causes.{is_error, not_bad_device, blames_device, blames_none}, Runs.{no_write, one_more}}}
use Rattle.pool_journal.proofs.pool.PoolJournal.recover.Goals as goal

pub returns-in_err-sync : goal.returns-in_err-sync
returns-in_err-sync g c =
    let d = g.D.SectorDisk in
    let s = c.sync.ensures in
    let was = c.args.self.now in
    let old = c.args.disk.now in
    let new = c.sync.new.self in
    looked d was old new (λ keeps image left. g.met.D.SectorDisk.only_now old image keeps left) (no_write d Nothing old new s.size s.kept s.cause.later s.same s.unsynced s.time)
    (λ keeps. once_none _ (d.asked old) (d.asked new) s.asks) was c.requires.is refl _ (is_error _ _ c.from_residual.ensures.1)
    (blames_device d old new _ c.from_residual.ensures.1 (c.in_err-sync.ensures.cause.failed refl)) (not_bad_device _ c.from_residual.ensures.1)

pub returns-in_err-resume : goal.returns-in_err-resume
returns-in_err-resume g c =
    let d = g.D.SectorDisk in
    let s = c.in_ok-sync.ensures in
    let was = c.args.self.now in
    let m = was.sizes.blocks in
    let old = c.args.disk.now in
    let mid = c.sync.new.self in
    let new = c.resume.new.disk in
    let e = c.resume.ensures in
    let syncs = no_write d Nothing old mid s.size s.kept s.cause.later s.same s.unsynced s.time in
    looked d was old new (λ keeps image left. g.met.D.SectorDisk.only_now old image keeps left) (one_more d Nothing old mid new syncs e.reads.run)
    (asked_since d old mid new syncs e.reads.run.kept m s.asks e.once) c.resume.new.self e.is e.sizes _ (is_error _ _ c.from_residual-in_err-resume.ensures.1)
    (let failed = c.in_err-resume.ensures.reads.cause.failed refl in let calm = s.cause.calm in blames_device d old new _ c.from_residual-in_err-resume.ensures.1 (omega (arith, failed, calm)))
    (not_bad_device _ c.from_residual-in_err-resume.ensures.1)

pub returns-in_err-renew : goal.returns-in_err-renew
returns-in_err-renew g c =
    let d = g.D.SectorDisk in
    let s = c.in_ok-sync.ensures in
    let was = c.args.self.now in
    let m = was.sizes.blocks in
    let old = c.args.disk.now in
    let mid = c.sync.new.self in
    let read = c.resume.new.disk in
    let new = c.renew.new.disk in
    let e = c.in_ok-resume.ensures in
    let syncs = no_write d Nothing old mid s.size s.kept s.cause.later s.same s.unsynced s.time in
    recovered d was old read (λ keeps image left. g.met.D.SectorDisk.only_now old image keeps left) (one_more d Nothing old mid read syncs e.reads.run)
    (asked_since d old mid read syncs e.reads.run.kept m s.asks e.once) c.resume.new.self c.renew.new.self new e.sizes
    (named_since d old mid read syncs e.reads.run.kept c.resume.new.self.second e.named) (given_since d old mid read syncs e.reads.run.kept was.sizes c.resume.new.self.map e.map) c.renew.ensures
    _ (search rules) (search rules) (search rules)
    (let failed = c.in_err-renew.ensures.failed refl in let still = e.reads.cause.calm in let calm = s.cause.calm in blames_device d old new _ c.from_residual-in_err-renew.ensures.1 (omega (arith, failed, still, calm)))
    (not_bad_device _ c.from_residual-in_err-renew.ensures.1)

pub returns : goal.returns
returns g c =
    let d = g.D.SectorDisk in
    let s = c.in_ok-sync.ensures in
    let was = c.args.self.now in
    let m = was.sizes.blocks in
    let old = c.args.disk.now in
    let mid = c.sync.new.self in
    let read = c.resume.new.disk in
    let found = c.resume.new.self in
    let now = c.renew.new.self in
    let new = c.renew.new.disk in
    let e = c.in_ok-resume.ensures in
    let w = c.in_ok-renew.ensures in
    let syncs = no_write d Nothing old mid s.size s.kept s.cause.later s.same s.unsynced s.time in
    let looks = one_more d Nothing old mid read syncs e.reads.run in
    let once = asked_since d old mid read syncs e.reads.run.kept m s.asks e.once in
    let named = named_since d old mid read syncs e.reads.run.kept found.second e.named in
    let given = given_since d old mid read syncs e.reads.run.kept was.sizes found.map e.map in
    recovered d was old read (λ keeps image left. g.met.D.SectorDisk.only_now old image keeps left) looks once found now new e.sizes named given w
    _ (settled d was old read (λ keeps image left. g.met.D.SectorDisk.only_now old image keeps left) looks once found now new e.sizes named given w) w.synced
    (turned d was old read (λ keeps image left. g.met.D.SectorDisk.only_now old image keeps left) looks once found now new e.sizes named given w)
    (blames_none d old new _ (w.calm ∙ e.reads.cause.calm ∙ s.cause.calm)) (λ is. cc)
