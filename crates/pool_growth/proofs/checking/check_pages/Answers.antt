use Rattle.std.proofs.Common.{refl, arith}
use Rattle.pool_growth.proofs.Checked.{are_kept, are_new}
use Rattle.pool_growth.proofs.checking.check_pages.Goals as goal

pub returns-clause-new : goal.returns-clause-new
returns-clause-new g c = are_new c.args.store.now.directory c.args.asked.changes.now c.args.asked.fresh.now c.in_default.ensures (c.if-not-rise.ensures.all refl)

pub returns-clause-good : goal.returns-clause-good
returns-clause-good g c =
    let most = c.free_pages-most.ensures in
    let front = c.count_changed-front.ensures in
    are_kept c.args.store.now c.args.asked.changes.now c.args.asked.pages.now (omega (arith, most, front)) c.in_default-find_outside.ensures (c.if-not-rise-2.ensures.all refl) c.in_default-find_open_end.ensures

pub returns-clause-rising : goal.returns-clause-rising
returns-clause-rising g c = (c.if-not-rise.ensures.all refl, c.if-not-rise-2.ensures.all refl)
