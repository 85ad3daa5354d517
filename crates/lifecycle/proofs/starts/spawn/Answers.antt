use Rattle.lifecycle.proofs.{Asking.{asks_process, no_new_spawned}, Keeping.{dead_root, pages_kept, no_copy_freed}, Names.{None, ap, ◌∙◌, rules, on_err, Picture, picture_of, root_in, fit_started, bare_freed, room_freed, no_new_frees}}
use Rattle.{lifecycle.{proofs.{Names.{asks_swap}, Starting.{process_added, root_taken, root_given, bare_kept, no_copy, files_kept, room_kept}}, specs.Changes.{KeepsProcesses}}, disk_model.specs.Moments.{Nothing}}
use Rattle.lifecycle.proofs.starts.spawn.Goals as goal

pub add_process-requires : goal.add_process-requires
add_process-requires g c = record {
  dead = ap (λ roots. root_in roots.items c.args.pid) c.take_table.ensures.rest.roots ∙ dead_root ((picture_of c.args.core.now).root c.args.pid) c.requires.dead;
}

pub returns : goal.returns
returns g c =
    let old : Picture g.M.Levels.mode = picture_of c.args.core.now in
    let mid : Picture g.M.Levels.mode = picture_of c.take_table.new.self in
    let new : Picture g.M.Levels.mode = picture_of c.add_process.new.self in
    let n = c.in_ok-root.root.0 in
    let root = c.in_ok-root.ensures in
    let spawns = c.add_process.ensures.spawns in
    let rest = c.add_process.ensures.rest in
    let ok = process_added old mid new c.args.pid n root.taken spawns in
    let taken = root_taken old mid new c.args.pid n root.taken spawns root.only in
    let gives = root_given old mid new c.args.pid n root.taken spawns root.gives in
    let bare = bare_kept old mid new c.args.pid n root.taken spawns in
    let fit = fit_started old mid new c.args.pid n root.taken spawns in
    let room = room_kept old mid new c.args.pid n root.taken spawns in
    let store = rest.store ∙ root.rest.store in
    let files = files_kept old mid new c.args.pid n root.taken spawns in
    let copies = no_copy old mid new c.args.pid n root.taken spawns in
    let number = ap (λ r. r.number) rest.refused ∙ root.cause.0 in
    let failures = ap (λ s. g.E.SectorDisk.failures s.pages.disk) rest.swap ∙ root.cause.1 in
    let asks = asks_process g.E.SectorDisk c.args.core.now c.take_table.new.self c.add_process.new.self rest
    (asks_swap g.E.SectorDisk c.args.core.now c.take_table.new.self None Nothing root.asked) in
    let later = no_new_spawned old mid new c.args.pid n c.requires.fit root.taken spawns in
    search rules

pub returns-in_err-root : goal.returns-in_err-root
returns-in_err-root g c =
    let old : Picture g.M.Levels.mode = picture_of c.args.core.now in
    let new : Picture g.M.Levels.mode = picture_of c.take_table.new.self in
    let frees = c.in_err-root.ensures.frees in
    let bare = bare_freed old new _ frees in
    let room = room_freed old new _ frees in
    let copies = no_copy_freed old new _ frees in
    let err = on_err c.from_residual.result (KeepsProcesses old new) (pages_kept old new frees.pages) in
    let asks = asks_swap g.E.SectorDisk c.args.core.now c.take_table.new.self None Nothing c.in_err-root.ensures.asked in
    let later = no_new_frees old new None frees c.requires.fit in
    search rules
