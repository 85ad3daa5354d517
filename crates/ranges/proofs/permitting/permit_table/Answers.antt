use Rattle.ranges.proofs.Names.{top_level, ◌≡◌, ℕ, ◌+◌, ◌/◌, ◌<◌, ◌≤◌, inl, is_some, sym, ap, ◌∙◌, subst, arith, rules, Picture, picture_of, IsTableOf, page_entry}
use Rattle.ranges.{specs.RowsPermitted.{IsPermissible, PermitsPages}, proofs.{BetweenEntries.{same_table, end_from, none_between}, PermittedRows.{left_row, pages_then}, Gaps.{user_inside}}}
use Rattle.ranges.proofs.permitting.permit_table.Goals as goal

pub loop-page-init : goal.loop-page-init
loop-page-init g c =
    let old : Picture g.M.Levels.mode = picture_of c.args.core.now in
    let begins = c.get.ensures.number in
    let next = c.next_entry-page.ensures in
    let P : ℕ → Type 0 = λ x. (root p : ℕ) → IsTableOf old.frames (top_level g.M.Levels.mode) root (p / 512) c.args.part.now.table.0 → x ≤ p → p < c.next_entry-page.result
    → page_entry old.frames (top_level g.M.Levels.mode) root p ≡ 0 in
    let place = c.requires.part.table c.root_of-root.result.0 c.root_of-root.ensures in
    let pages = left_row c.args.core.now c.args.part.now.pid c.args.part.now.first c.next_entry-page.result c.args.prot c.requires.may (λ page h least below. inl
    (none_between old c.args.part.now.pid c.root_of-root.result.0 c.args.part.now.table.0 c.args.part.now.first c.args.part.now.first c.next_entry-page.result c.args.part.now.end
    c.root_of-root.ensures place (omega arith) next.within c.requires.part.one_table (subst P begins next.passed) page h least below)) in
    search rules

pub permit_page-requires-clause-row : goal.permit_page-requires-clause-row
permit_page-requires-clause-row g c =
    let k = c.loop-page.invariant in
    let same = same_table c.args.part.now.first c.loop-page.page c.args.part.now.end k.low c.loop-page-test.true c.requires.part.one_table in
    let P : ℕ → Type 0 = λ x. IsTableOf c.loop-page.core.frames (top_level g.M.Levels.mode) c.root_of-root.result.0 x c.args.part.now.table.0 in
    record { root = k.root_is; place = subst P (same ∙ ap (λ x. x / 512) (sym c.user_page.ensures)) k.place }

pub next_entry-page-requires-in-loop-page-clause-one_table : goal.next_entry-page-requires-in-loop-page-clause-one_table
next_entry-page-requires-in-loop-page-clause-one_table g c =
    end_from c.args.part.now.first (c.loop-page.page + 1) c.args.part.now.end (omega (arith, c.loop-page.invariant.low)) c.requires.part.one_table

pub loop-page-preserved : goal.loop-page-preserved
loop-page-preserved g c =
    let new : Picture g.M.Levels.mode = picture_of c.permit_page.new.core in
    let page = c.loop-page.page in
    let k = c.loop-page.invariant in
    let low = k.low in
    let next = c.next_entry-page-in-loop-page.ensures in
    let from = next.from in
    let place = c.permit_page.ensures.places (c.args.part.now.first / 512) c.args.part.now.table.0 k.place in
    let root_is = c.permit_page.ensures.permits.beside.root c.args.part.now.pid ∙ k.root_is in
    let one = subst (λ (x : ℕ). PermitsPages c.loop-page.core c.permit_page.new.core c.args.part.now.pid x (x + 1) c.args.prot) c.user_page.ensures c.permit_page.ensures.leaf in
    let may : IsPermissible new c.args.part.now.pid c.args.prot = record { live = ap is_some root_is; rooted = one.rooted; named = one.named; reads = c.requires.may.reads } in
    let past = none_between new c.args.part.now.pid c.root_of-root.result.0 c.args.part.now.table.0 c.args.part.now.first (page + 1) c.next_entry-page-in-loop-page.result c.args.part.now.end
    root_is place (omega (arith, low)) next.within c.requires.part.one_table next.passed in
    let pages = pages_then c.args.core.now c.permit_page.new.core c.permit_page.new.core c.args.part.now.pid c.args.part.now.first (page + 1) c.next_entry-page-in-loop-page.result c.args.prot (omega (arith, low)) from
    (pages_then c.args.core.now c.loop-page.core c.permit_page.new.core c.args.part.now.pid c.args.part.now.first page (page + 1) c.args.prot low (omega arith) k.pages one)
    (left_row c.permit_page.new.core c.args.part.now.pid (page + 1) c.next_entry-page-in-loop-page.result c.args.prot may (λ p h least below. inl (past p h least below))) in
    search rules

pub permit_page-requires-clause-inside : goal.permit_page-requires-clause-inside
permit_page-requires-clause-inside g c =
    user_inside g.M.Levels.mode c.user_page.result c.args.part.now.end (omega (arith, c.user_page.ensures, c.loop-page-test.true)) c.requires.part.high

pub returns : goal.returns
returns g c =
    let end : c.loop-page.page ≡ c.args.part.now.end = omega (arith, c.loop-page.invariant.high, c.loop-page-test.false) in
    subst (λ (x : ℕ). PermitsPages c.args.core.now c.loop-page.core c.args.part.now.pid c.args.part.now.first x c.args.prot) end c.loop-page.invariant.pages
