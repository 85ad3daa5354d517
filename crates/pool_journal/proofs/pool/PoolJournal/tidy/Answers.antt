use Rattle.std.proofs.Common.{refl}
use Rattle.sync_journal.proofs.Causes.{is_error}
use Rattle.pool_journal.proofs.{Committed.{Begins}, Tidied.{is_idle, is_tidied, not_brought, not_emptied}}
use Rattle.pool_journal.proofs.pool.PoolJournal.tidy.Goals as goal

pub returns-in_err-bring_home : goal.returns-in_err-bring_home
returns-in_err-bring_home g c =
    let b : Begins g.D.SectorDisk c.args.self.now c.args.disk.now = record { only_now = λ k image left. g.met.D.SectorDisk.only_now c.args.disk.now image k left; rest = c.requires.rest } in
    not_brought g.D.SectorDisk c.args.self.now c.requires.is c.args.disk.now b c.bring_home.new.self c.bring_home.new.disk c.bring_home.ensures _ (is_error _ _ c.from_residual.ensures.1)
    (c.gives.ensures.some c.if-gives.true) (c.in_err-bring_home.ensures.failed refl)

pub returns-in_err-name_map : goal.returns-in_err-name_map
returns-in_err-name_map g c =
    let b : Begins g.D.SectorDisk c.args.self.now c.args.disk.now = record { only_now = λ k image left. g.met.D.SectorDisk.only_now c.args.disk.now image k left; rest = c.requires.rest } in
    not_emptied g.D.SectorDisk c.args.self.now c.requires.is c.args.disk.now b (c.gives.ensures.some c.if-gives.true) c.bring_home.new.self c.bring_home.new.disk c.in_ok-bring_home.ensures
    c.name_map.new.disk c.name_map.ensures _ (is_error _ _ c.from_residual-in_err-name_map.ensures.1) (c.in_err-name_map.ensures.failed refl)

pub returns-in_ok-name_map : goal.returns-in_ok-name_map
returns-in_ok-name_map g c =
    let b : Begins g.D.SectorDisk c.args.self.now c.args.disk.now = record { only_now = λ k image left. g.met.D.SectorDisk.only_now c.args.disk.now image k left; rest = c.requires.rest } in
    let names = c.in_ok-name_map.ensures in
    is_tidied g.D.SectorDisk c.args.self.now c.requires.is c.args.disk.now b (c.gives.ensures.some c.if-gives.true) c.bring_home.new.self c.bring_home.new.disk c.in_ok-bring_home.ensures
    c.name_map.new.disk names names.done names.synced names.calm c.turn.new.self c.turn.ensures

pub returns-else-gives : goal.returns-else-gives
returns-else-gives g c =
    let b : Begins g.D.SectorDisk c.args.self.now c.args.disk.now = record { only_now = λ k image left. g.met.D.SectorDisk.only_now c.args.disk.now image k left; rest = c.requires.rest } in
    is_idle g.D.SectorDisk c.args.self.now c.requires.is c.args.disk.now b (c.gives.ensures.none c.if-gives.false)
