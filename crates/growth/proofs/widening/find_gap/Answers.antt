use Rattle.std.proofs.Common.{refl, arith}
use Rattle.growth.proofs.Widened.{blocked_more}
use Rattle.growth.proofs.widening.find_gap.Goals as goal

pub returns-then-next-first : goal.returns-then-next-first
returns-then-next-first c = (refl, record { low = c.loop-first.invariant.low; high = omega arith; unused = c.pass_used-next.ensures.free c.if-next-first.true })

pub loop-first-preserved : goal.loop-first-preserved
loop-first-preserved c =
    let low = c.loop-first.invariant.low in
    let rises = c.pass_used-next.ensures.rises in
    record {
      end = c.loop-first.invariant.end;
      low = omega (arith, low, rises);
      blocked = blocked_more c.args.before.now c.args.changes.now c.args.entry.now c.args.room c.args.count c.loop-first.first c.pass_used-next.result c.loop-first.invariant.blocked c.pass_used-next.ensures;
    }
