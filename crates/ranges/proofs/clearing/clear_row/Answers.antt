use Rattle.ranges.proofs.Names.{sizes, ◌≤◌, sym, ◌∙◌, arith, rules, Picture, picture_of}
use Rattle.ranges.{specs.Rows.{IsUnmapped}, proofs.{ClearedPages.{pages_none, pages_then}, Passed.{pages_on, cleared_on, row_passed}, Pruned.{cleared_none}}}
use Rattle.ranges.proofs.clearing.clear_row.Goals as goal

pub loop-part-init : goal.loop-part-init
loop-part-init g c =
    let pages = pages_none c.args.core.now c.args.pid c.max-page.result c.max-page.result c.requires.fit (λ page h least below. absurd (omega (arith, least, below))) in
    let cleared = cleared_none (picture_of c.args.core.now) c.args.pid c.max-page.result c.requires.fit c.args.core.now.sound in
    search rules

pub loop-part-preserved : goal.loop-part-preserved
loop-part-preserved g c =
    let mid : Picture g.M.Levels.mode = picture_of c.loop-part.core in
    let first = c.in-Some.part.first in
    let k = c.loop-part.invariant in
    let low = k.low in
    let some = c.in-Some.ensures.some in
    let from = some.from in
    let further = some.further in
    let next = c.clear_part.ensures in
    let start : c.max-page.result ≤ first = omega (arith, low, from) in
    let gap : IsUnmapped (mid.at c.args.pid) c.loop-part.page first = λ page least below. sym (c.regions.ensures page) ∙ some.passed page least below in
    let pages = pages_then c.args.core.now c.loop-part.core c.clear_part.new.core c.args.pid c.max-page.result first c.in-Some.part.end c.requires.fit start (omega (arith, further))
    (pages_on c.args.core.now c.loop-part.core c.args.pid c.max-page.result c.loop-part.page first c.requires.fit low from gap k.pages) next.pages in
    let cleared = next.cleared c.max-page.result start (cleared_on mid c.args.pid c.max-page.result c.loop-part.page first k.pages.fit.granting gap k.cleared) in
    search rules

pub overflow_add-end : goal.overflow_add-end
overflow_add-end g c = omega (arith, c.requires.row, (sizes g.M.Levels.mode).most)

pub returns : goal.returns
returns g c =
    let k = c.loop-part.invariant in
    row_passed c.args.core.now c.loop-part.core c.args.pid c.args.first c.args.pages c.max-page.result c.loop-part.page c.requires.fit k.pages k.cleared
    c.requires.row c.max-page.ensures k.low k.high (λ page least below. sym (c.regions.ensures page) ∙ c.in_default.ensures.none page least below)
