use Rattle.file_store.proofs.{Names.{arith}, Totals.{total_pages-rest, total_pages-end}}
use Rattle.file_store.proofs.sources.pages_of.Goals as goal

pub loop-source-preserved : goal.loop-source-preserved
loop-source-preserved g c =
    let e = total_pages-rest c.args.sources.now c.loop-source.source-index c.source-item.result c.loop-source-test.true c.source-item.is in
    record { rest = omega (arith, e, c.loop-source.invariant.rest, c.pages.ensures.count, c.saturating_add-total.ensures); fits = omega (arith, c.saturating_add-total.ensures) }

pub returns : goal.returns
returns g c =
    let e = total_pages-end c.args.sources.now c.loop-source.source-index c.loop-source-test.false in
    omega (arith, e, c.loop-source.invariant.rest, c.loop-source.invariant.fits)
