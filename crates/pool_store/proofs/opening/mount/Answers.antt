use Rattle.std.proofs.Common.{refl}
use Rattle.disk_model.specs.Moments.{Nothing}
use Rattle.sync_journal.proofs.Runs.{no_write}
use Rattle.pool_store.proofs.Renewing.{not_opened, opens, refuses_renewal, refuses_since, refuses_sync, resumes_since}
use Rattle.pool_store.specs.Resume.{store_on}
use Rattle.pool_store.proofs.opening.mount.Goals as goal

pub returns-in_err-sync : goal.returns-in_err-sync
returns-in_err-sync g c =
    let d = g.D.SectorDisk in
    let s = c.sync.ensures in
    let old = c.args.disk.now in
    let mid = c.sync.new.self in
    not_opened d old (λ keeps image left. g.met.D.SectorDisk.only_now old image keeps left) _ mid c.from_residual.result c.from_residual.ensures.1
    (refuses_sync d old (λ keeps image left. g.met.D.SectorDisk.only_now old image keeps left) mid (no_write d Nothing old mid s.size s.kept s.cause.later s.same s.unsynced s.time) s.asks (c.in_err-sync.ensures.cause.failed refl))

pub returns-in_err-found : goal.returns-in_err-found
returns-in_err-found g c =
    let d = g.D.SectorDisk in
    let s = c.in_ok-sync.ensures in
    let old = c.args.disk.now in
    let mid = c.sync.new.self in
    let fault = c.in_err-found.field-0.0 in
    not_opened d old (λ keeps image left. g.met.D.SectorDisk.only_now old image keeps left) fault c.take_up.new.disk c.from_residual-in_err-found.result c.from_residual-in_err-found.ensures.1
    (refuses_since d old (λ keeps image left. g.met.D.SectorDisk.only_now old image keeps left) mid (no_write d Nothing old mid s.size s.kept s.cause.later s.same s.unsynced s.time) s.asks s.cause.calm
    fault c.take_up.new.disk c.in_err-found.ensures)

pub returns-in_err-renew : goal.returns-in_err-renew
returns-in_err-renew g c =
    let d = g.D.SectorDisk in
    let s = c.in_ok-sync.ensures in
    let old = c.args.disk.now in
    let mid = c.sync.new.self in
    let store = store_on c.in_ok-found.found c.take_up.new.disk in
    let new = c.renew.new.disk in
    let f = resumes_since d old (λ keeps image left. g.met.D.SectorDisk.only_now old image keeps left) mid (no_write d Nothing old mid s.size s.kept s.cause.later s.same s.unsynced s.time) s.asks s.cause.calm store c.in_ok-found.ensures in
    not_opened d old (λ keeps image left. g.met.D.SectorDisk.only_now old image keeps left) _ new c.from_residual-in_err-renew.result c.from_residual-in_err-renew.ensures.1
    (refuses_renewal d old (λ keeps image left. g.met.D.SectorDisk.only_now old image keeps left) store f c.renew.new.self new c.renew.ensures (c.in_err-renew.ensures.failed refl))

pub returns : goal.returns
returns g c =
    let d = g.D.SectorDisk in
    let s = c.in_ok-sync.ensures in
    let old = c.args.disk.now in
    let mid = c.sync.new.self in
    let store = store_on c.in_ok-found.found c.take_up.new.disk in
    let f = resumes_since d old (λ keeps image left. g.met.D.SectorDisk.only_now old image keeps left) mid (no_write d Nothing old mid s.size s.kept s.cause.later s.same s.unsynced s.time) s.asks s.cause.calm store c.in_ok-found.ensures in
    opens d old (λ keeps image left. g.met.D.SectorDisk.only_now old image keeps left) store f c.renew.new.self c.renew.new.disk c.in_ok-renew.ensures

pub renew-requires-clause-is : goal.renew-requires-clause-is
renew-requires-clause-is g c = c.in_ok-found.ensures.finds.ready.is.is_journal

pub renew-requires-clause-pool : goal.renew-requires-clause-pool
renew-requires-clause-pool g c = c.in_ok-found.ensures.finds.ready.is.pool

pub renew-requires-clause-rest : goal.renew-requires-clause-rest
renew-requires-clause-rest g c = λ keeps. (c.in_ok-found.ensures.finds.ready.is.at_rest keeps).rest

pub renew-requires-clause-synced : goal.renew-requires-clause-synced
renew-requires-clause-synced g c = c.in_ok-found.ensures.finds.synced
