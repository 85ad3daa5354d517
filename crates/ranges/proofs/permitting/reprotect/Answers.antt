use Rattle.ranges.proofs.Names.{sizes, ℕ, ◌≤◌, sym, ◌∙◌, subst, arith, rules, FrameTable, KeepsFrames, picture_of}
use Rattle.ranges.{specs.RowsPermitted.{PermitsPages}, proofs.{PermittedRows.{left_row, pages_then, named_entries}, Reprotected.{reprotected_row}}}
use Rattle.ranges.proofs.permitting.reprotect.Goals as goal

pub loop-page-init : goal.loop-page-init
loop-page-init g c =
    let named = named_entries (picture_of c.args.core.now) c.args.pid c.args.core.now.sound c.requires.fit in
    let pages = left_row c.args.core.now c.args.pid c.max-page.result c.max-page.result c.args.prot (record { live = c.requires.live; rooted = c.requires.fit.rooted; named = named; reads = c.requires.reads })
    (λ page h least below. absurd (omega (arith, least, below))) in
    search rules

pub loop-page-preserved : goal.loop-page-preserved
loop-page-preserved g c =
    let k = c.loop-page.invariant in
    let low = k.low in
    let next = c.permit_next-page.ensures in
    let further : c.loop-page.page ≤ c.permit_next-page.result = omega (arith, next.further, c.user_page.ensures) in
    let pages = pages_then c.args.core.now c.loop-page.core c.permit_next-page.new.core c.args.pid c.max-page.result c.loop-page.page c.permit_next-page.result c.args.prot low further k.pages
    (subst (λ (x : ℕ). PermitsPages c.loop-page.core c.permit_next-page.new.core c.args.pid x c.permit_next-page.result c.args.prot) c.user_page.ensures next.leaves) in
    search rules

pub overflow_add-end : goal.overflow_add-end
overflow_add-end g c = omega (arith, c.requires.row, (sizes g.M.Levels.mode).most)

pub returns : goal.returns
returns g c =
    let k = c.loop-page.invariant in
    let low = k.low in
    let high = k.high in
    let done = reprotected_row (picture_of c.args.core.now) (picture_of c.loop-page.core) (picture_of c.remap.new.self) c.args.pid c.args.first c.args.pages c.max-page.result c.loop-page.page c.args.prot c.requires.fit k.pages.permits k.pages.rooted
    c.remap.ensures.remaps (λ page. c.remap.ensures.at page ∙ c.requires.map page) c.requires.reads c.requires.row c.max-page.ensures (omega (arith, c.loop-page-test.false, low, high)) in
    let frames = subst (λ (t : FrameTable). KeepsFrames c.args.core.now.frames t) (sym c.remap.ensures.rest.frames) k.pages.permits.memory in
    search rules
