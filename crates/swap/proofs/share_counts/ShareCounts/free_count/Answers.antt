use Rattle.{std.proofs.Common.{arith}, swap.proofs.Stack.{short_stack}}
use Rattle.swap.proofs.share_counts.ShareCounts.free_count.Goals as goal

pub overflow_cast-result : goal.overflow_cast-result
overflow_cast-result c =
    let short = short_stack c.self.inside.counts.items c.self.inside.free.items c.self.invariant.stack in
    let most = c.self.invariant.sound.most in
    let len = c.len.ensures in
    omega (arith, short, most, len)
