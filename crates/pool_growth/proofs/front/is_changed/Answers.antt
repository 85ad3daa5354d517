use Rattle.std.proofs.Common.{sym, arith}
use Rattle.growth.proofs.Listed.{no_change}
use Rattle.pool_growth.proofs.Listed.{changed_here, none_changed}
use Rattle.pool_growth.proofs.front.is_changed.Goals as goal

pub returns-then-change-page : goal.returns-then-change-page
returns-then-change-page c = sym (changed_here c.args.changes.now c.args.page c.loop-change.change-index no_change (omega arith) c.if-change-page.true)

pub returns : goal.returns
returns c = sym (none_changed c.args.changes.now c.args.page (λ i d inside. c.loop-change.invariant i d (omega arith)))
