use Rattle.std.proofs.Common.{refl, arith}
use Rattle.pool_journal.proofs.{Free.{free_most}, Stages.{SyncsAll, stage_told, stage_failed, stage_ends, roomed, filled, noted, ended}}
use Rattle.pool_journal.specs.Maps.{entries_of}
use Rattle.sync_journal.proofs.Causes.{asks_nothing, calm_first}
use Rattle.pool_journal.proofs.pool.PoolJournal.stage.Goals as goal

pub make_room-requires-clause-few : goal.make_room-requires-clause-few
make_room-requires-clause-few g c = (let most = free_most c.args.self.now.sizes.blocks (entries_of c.args.self.now.map) in omega (arith, most, c.requires.given.few, c.requires.is.sized.1))

pub returns-in_err-make_room : goal.returns-in_err-make_room
returns-in_err-make_room g c =
    let s = g.S.PageSource in
    let source = c.args.source.now in
    stage_failed c.make_room.new.self c.make_room.new.disk source source c.from_residual.result c.from_residual.ensures.1
    (roomed c.make_room.new.self c.make_room.new.disk c.make_room.ensures) (asks_nothing s source (g.met.S.PageSource.stays source)) (c.in_err-make_room.ensures.failed refl) refl

pub returns-in_err-fill : goal.returns-in_err-fill
returns-in_err-fill g c =
    let source = c.args.source.now in
    let left = c.fill.new.source in
    stage_told c.fill.new.self c.fill.new.disk source left _ c.from_residual-in_err-fill.result c.from_residual-in_err-fill.ensures.1
    (filled c.make_room.new.self c.make_room.new.disk c.in_ok-make_room.ensures c.fill.new.self c.fill.new.disk c.fill.ensures) c.fill.ensures.asks (calm_first c.in_ok-make_room.ensures.calm c.in_err-fill.ensures.causes)

pub returns-in_err-write_map : goal.returns-in_err-write_map
returns-in_err-write_map g c =
    let source = c.args.source.now in
    let left = c.fill.new.source in
    let fills = c.in_ok-fill.ensures in
    stage_failed c.fill.new.self c.write_map.new.disk source left c.from_residual-in_err-write_map.result c.from_residual-in_err-write_map.ensures.1
    (noted c.make_room.new.self c.make_room.new.disk c.in_ok-make_room.ensures c.fill.new.self c.fill.new.disk fills c.write_map.new.disk c.write_map.ensures) fills.asks
    (omega (arith, c.in_err-write_map.ensures.failed refl, fills.causes.device_calm, c.in_ok-make_room.ensures.calm)) fills.causes.source_calm

pub returns-in_err-sync : goal.returns-in_err-sync
returns-in_err-sync g c =
    let d = g.D.SectorDisk in
    let source = c.args.source.now in
    let left = c.fill.new.source in
    let fills = c.in_ok-fill.ensures in
    let syncs : SyncsAll d c.write_map.new.disk c.sync.new.self = record { size = c.sync.ensures.size; kept = c.sync.ensures.kept; later = c.sync.ensures.cause.later; asks = c.sync.ensures.asks; same = c.sync.ensures.same; unsynced = c.sync.ensures.unsynced; time = c.sync.ensures.time } in
    stage_failed c.fill.new.self c.sync.new.self source left c.from_residual-in_err-sync.result c.from_residual-in_err-sync.ensures.1
    (ended c.make_room.new.self c.make_room.new.disk c.in_ok-make_room.ensures c.fill.new.self c.fill.new.disk fills c.write_map.new.disk c.in_ok-write_map.ensures c.sync.new.self syncs) fills.asks
    (omega (arith, c.in_err-sync.ensures.cause.failed refl, c.in_ok-write_map.ensures.calm, fills.causes.device_calm, c.in_ok-make_room.ensures.calm)) fills.causes.source_calm

pub returns : goal.returns
returns g c =
    let d = g.D.SectorDisk in
    let syncs : SyncsAll d c.write_map.new.disk c.sync.new.self = record { size = c.sync.ensures.size; kept = c.sync.ensures.kept; later = c.sync.ensures.cause.later; asks = c.sync.ensures.asks; same = c.sync.ensures.same; unsynced = c.sync.ensures.unsynced; time = c.sync.ensures.time } in
    stage_ends c.make_room.new.self c.make_room.new.disk c.in_ok-make_room.ensures c.fill.new.self c.fill.new.disk c.in_ok-fill.ensures c.write_map.new.disk c.in_ok-write_map.ensures c.sync.new.self syncs
    c.in_ok-sync.ensures.synced c.in_ok-sync.ensures.cause.calm c.requires.given.inside c.requires.given.rising
