use Rattle.std.proofs.Common.{arith, ◌+◌, ◌^◌, ◌∙◌, sym}
use Rattle.truncation.proofs.Past.{first_is, before_first}
use Rattle.truncation.proofs.runs.first_past.Goals as goal

pub overflow_add-first : goal.overflow_add-first
overflow_add-first c =
    let most = c.page_past.ensures.first (2 ^ 52) (omega (arith, c.ranges.length.fits)) in
    omega (arith, most, c.saturating_sub.ensures, c.requires.order, c.requires.high)

pub returns-then-first-run-clause-some : goal.returns-then-first-run-clause-some
returns-then-first-run-clause-some c =
    let page = c.in_ok-page.page in
    let past = c.page_past.ensures in
    first_is c.args.run page c.args.file c.args.length (sym c.file_page.ensures ∙ c.in_ok-page.was) c.if-page-file.false c.page_past.result past.past past.first
    (c.args.run.first + c.saturating_sub.result) (omega (arith, c.saturating_sub.ensures, c.from.ensures)) c.if-first-run.true

pub returns-else-first-run-clause-none : goal.returns-else-first-run-clause-none
returns-else-first-run-clause-none c k from below =
    let page = c.in_ok-page.page in
    let past = c.page_past.ensures in
    before_first c.args.run page c.args.file c.args.length (sym c.file_page.ensures ∙ c.in_ok-page.was) c.if-page-file.false c.page_past.result past.past past.first
    (c.args.run.first + c.saturating_sub.result) (omega (arith, c.saturating_sub.ensures, c.from.ensures)) k from (omega (arith, below, c.if-first-run.false))
