use Rattle.{std.proofs.Common.{◌≡◌, ℕ, ◌+◌, ◌<◌, ◌≤◌, Bool, if◌then◌else◌, length, sym, ap, ◌∙◌, arith}, stop_trials.proofs.Lines.{all_of_them, counted}}
use Rattle.stop_trials.proofs.runs.acknowledged_in.Goals as goal
use Rattle.stop_trials.proofs.runs.acknowledged_in.Goals.{then-acknowledges, else-acknowledges}

pub loop-i-preserved : goal.loop-i-preserved
loop-i-preserved c =
    let i = c.loop-i.invariant in
    let few = i.few in
    let inside : c.loop-i.i < length c.args.commands.now = omega (arith, c.loop-i-test.true, c.requires) in
    let next = counted c.args.commands.now c.args.replies.now c.loop-i.i c.index-commands-i.result c.index-replies-i.result c.acknowledges.result c.loop-i.acknowledged
    c.if-acknowledges.acknowledged inside c.loop-i-test.true c.index-commands-i.is c.index-replies-i.is c.acknowledges.ensures i.counted in
    elim c.if-acknowledges.branch [
      | then-acknowledges w ↦
          let one = w.acknowledged-is in
          record { few = omega (arith, few, one); counted = next (one ∙ ap (λ (b : Bool). c.loop-i.acknowledged + (if b then 1 else 0)) (sym w.if-acknowledges.true)) }
      | else-acknowledges w ↦
          let none = w.acknowledged-is in
          record {
            few = omega (arith, few, none);
            counted = next (omega (arith, none) ∙ ap (λ (b : Bool). c.loop-i.acknowledged + (if b then 1 else 0)) (sym w.if-acknowledges.false));
          }
    ]

pub returns : goal.returns
returns c = c.loop-i.invariant.counted ∙ all_of_them c.args.commands.now c.args.replies.now c.loop-i.i c.loop-i-test.false
