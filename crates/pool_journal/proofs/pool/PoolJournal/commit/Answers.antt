use Rattle.std.proofs.Common.{refl}
use Rattle.pool_journal.proofs.Committed.{Begins, not_staged, not_named, is_committed}
use Rattle.pool_journal.proofs.pool.PoolJournal.commit.Goals as goal

pub returns-in_err-stage : goal.returns-in_err-stage
returns-in_err-stage g c =
    let b : Begins g.D.SectorDisk c.args.self.now c.args.disk.now = record { only_now = λ k image left. g.met.D.SectorDisk.only_now c.args.disk.now image k left; rest = c.requires.rest } in
    not_staged g.D.SectorDisk g.S.PageSource c.args.self.now c.args.homes.now c.args.disk.now c.args.source.now b c.stage.new.self c.stage.new.disk c.in_err-stage.ensures _ c.from_residual.result c.from_residual.ensures.1 refl

pub returns-in_err-name_map : goal.returns-in_err-name_map
returns-in_err-name_map g c =
    let b : Begins g.D.SectorDisk c.args.self.now c.args.disk.now = record { only_now = λ k image left. g.met.D.SectorDisk.only_now c.args.disk.now image k left; rest = c.requires.rest } in
    not_named g.D.SectorDisk g.S.PageSource c.args.self.now c.args.homes.now c.args.disk.now c.args.source.now b c.requires.given c.stage.new.self c.stage.new.disk c.in_ok-stage.ensures c.name_map.new.disk c.name_map.ensures c.from_residual-in_err-name_map.result c.from_residual-in_err-name_map.ensures.1
    (c.in_err-name_map.ensures.failed refl)

pub returns : goal.returns
returns g c =
    let b : Begins g.D.SectorDisk c.args.self.now c.args.disk.now = record { only_now = λ k image left. g.met.D.SectorDisk.only_now c.args.disk.now image k left; rest = c.requires.rest } in
    let names = c.in_ok-name_map.ensures in
    is_committed g.D.SectorDisk g.S.PageSource c.args.self.now c.args.homes.now c.args.disk.now c.args.source.now b c.requires.given c.stage.new.self c.stage.new.disk c.in_ok-stage.ensures c.name_map.new.disk names names.done names.synced names.calm c.turn.new.self c.turn.ensures
