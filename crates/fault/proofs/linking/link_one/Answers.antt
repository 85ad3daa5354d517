use Rattle.fault.proofs.Steps.{table_before, same_with, moves_freed, bare_freed, slotted_frees, full_stays}
use Rattle.fault.proofs.WaySteps.{pages_linked, bare_linked, slotted_linked, tables_linked, spaces_linked, room_linked, fit_after, no_copy_linked, missing_taken, still_wanted, no_copy_freed, gives_linked, links_linked}
use Rattle.fault.proofs.{Names.{inl, None, sym, ◌∙◌, rules, Nothing, IsFull, on_err, Picture, picture_of, IsWhole}, Asking.{no_new_frees, no_new_linked, asks_slots_if, asks_swap}}
use Rattle.fault.specs.Changes.{LinksTables}
use Rattle.fault.proofs.linking.link_one.Goals as goal

pub link_table-requires-clause-root : goal.link_table-requires-clause-root
link_table-requires-clause-root g c =
    let took = c.in_ok-table.ensures.taken in
    took.adds.roots c.args.way.now.root.0 (took.fit.rooted.roots c.args.way.now.pid c.args.way.now.root.0 (took.frees.pages.root c.args.way.now.pid ∙ c.requires.lives))

pub link_table-requires-clause-missing : goal.link_table-requires-clause-missing
link_table-requires-clause-missing g c none =
    let took = c.in_ok-table.ensures.taken in
    c.requires.missing (sym (took.adds.missing c.args.way.now.root.0 c.args.way.now.page (took.fit.rooted.roots c.args.way.now.pid c.args.way.now.root.0 (took.frees.pages.root c.args.way.now.pid ∙ c.requires.lives))
    ∙ took.frees.missing c.args.way.now.pid c.args.way.now.root.0 c.args.way.now.page c.requires.lives) ∙ none)

pub returns-clause-links : goal.returns-clause-links
returns-clause-links g c =
    let old : Picture g.M.Levels.mode = picture_of c.args.core.now in
    let taken : Picture g.M.Levels.mode = picture_of c.take_table.new.self in
    let new : Picture g.M.Levels.mode = record taken { frames = c.link_table.new.memory } in
    let done = c.in_ok-table.ensures in
    let took = done.taken in
    let lives = c.requires.lives in
    let links = c.link_table.ensures.links in
    let beside = same_with taken c.link_table.new.memory in
    let gives = gives_linked took lives links beside done.gives in
    let fit = fit_after took lives links beside c.requires.mapped in
    let spaces = spaces_linked took lives links beside in
    let tables = tables_linked took lives links beside in
    let room = room_linked took lives links beside in
    let pages = pages_linked took lives links beside in
    let bare = bare_linked took lives links beside in
    let no_copy = no_copy_linked took lives links beside in
    let asks = asks_slots_if g.E.SectorDisk (IsFull c.link_table.new.memory) c.args.core.now c.take_table.new.self None Nothing (full_stays old new None gives)
    (asks_swap g.E.SectorDisk c.args.core.now c.take_table.new.self None Nothing done.asked) in
    let later = no_new_linked old taken c.in_ok-table.table.0 c.requires.fit took new links.kept beside in
    let way = links_linked took lives links beside done.gives done.only in
    let slotted = slotted_linked took lives links beside in
    search rules

pub returns-clause-lowered : goal.returns-clause-lowered
returns-clause-lowered g c =
    let links = c.link_table.ensures.links in
    links.lowered ∙ missing_taken c.in_ok-table.ensures.taken c.requires.lives links (same_with (picture_of c.take_table.new.self) c.link_table.new.memory)

pub returns-in_err-table-clause-links : goal.returns-in_err-table-clause-links
returns-in_err-table-clause-links g c =
    let done = c.in_err-table.ensures in
    let old : Picture g.M.Levels.mode = picture_of c.args.core.now in
    let new : Picture g.M.Levels.mode = picture_of c.take_table.new.self in
    let moves = moves_freed g.E.SectorDisk c.args.core.now c.take_table.new.self _ done.fit done.swap done.frees done.rest done.device in
    let bare = bare_freed old new _ done.frees in
    let no_copy = no_copy_freed done.frees in
    let asks = asks_slots_if g.E.SectorDisk (IsFull c.take_table.new.self.frames) c.args.core.now c.take_table.new.self None Nothing (λ full. done.full)
    (asks_swap g.E.SectorDisk c.args.core.now c.take_table.new.self None Nothing done.asked) in
    let later = no_new_frees old new None done.frees c.requires.fit in
    let way : LinksTables old new c.args.way.now.pid c.args.way.now.page = λ n table. inl (table_before old.frames new.frames n done.frees.count (done.still n) table) in
    let slotted = slotted_frees (λ p. ⊥) (λ q p. ⊥) old new _ done.frees in
    let wanted = on_err c.from_residual.result (IsWhole new c.args.way.now.pid c.args.way.now.page → ⊥)
    (still_wanted old new c.args.way.now.pid c.args.way.now.root.0 c.args.way.now.page done.frees c.requires.lives c.requires.missing) in
    search rules
