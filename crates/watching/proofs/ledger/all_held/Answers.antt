use Rattle.{std.proofs.{Common.{arith, ap, length, refl, ◌∙◌}, lemmas.List.{length-append}}, watching.proofs.Notes.{below_end, note_more}}
use Rattle.watching.proofs.ledger.all_held.Goals as goal

pub loop-n-init : goal.loop-n-init
loop-n-init g c = record { long = ap length c.new-frames.ensures.items; noted = λ running k before. absurd (omega (arith, before)) }

pub loop-n-preserved : goal.loop-n-preserved
loop-n-preserved g c =
    let i = c.loop-n.invariant in
    record {
      long = (let long = i.long in let more = ap length c.in_ok-push.ensures.items ∙ length-append c.loop-n.frames.items _ in omega (arith, long, more));
      noted = λ running k. note_more c.args.machine.now c.loop-n.frames.items _ _ c.loop-n.n k i.long c.in_ok-push.ensures.items c.in-Some.ensures.some (i.noted running);
    }

pub returns-in_default : goal.returns-in_default
returns-in_default g c = λ running k few is. c.loop-n.invariant.noted running k (below_end c.args.machine.now c.loop-n.n k (c.in_default.ensures.none running) is)

pub returns : goal.returns
returns g c = λ running k few is. c.loop-n.invariant.noted running k (omega (arith, few, c.loop-n-test.false))
