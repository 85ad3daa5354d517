use Rattle.std.proofs.Common.{◌≡◌, ◌≤◌, ◌+◌, ◌-◌, ◌*◌, ◌∙◌, None, get_or, drop, length, refl, subst, arith}
use Rattle.std.proofs.lemmas.List.{length-drop, length-take-le}
use Rattle.pool_journal.proofs.{Bytes.{part_at}, Found.{none_over}}
use Rattle.pool_journal.specs.Pools.{first_among}
use Rattle.pool_journal.proofs.searches.passed.Goals as goal

pub loop-run-init : goal.loop-run-init
unfolding first_among
loop-run-init c = refl

pub loop-run-preserved : goal.loop-run-preserved
loop-run-preserved c =
    let xs = c.args.numbers.now in
    let at = 96 * c.loop-run.run in
    let inside : at + 96 ≤ length xs = omega (arith, c.loop-run-test.true) in
    let long = length-take-le (at + 96 - at) (drop at xs) (let left = length-drop at xs in omega (arith, left, inside)) in
    let next : at + 96 ≡ 96 * (c.loop-run.run + 1) = omega arith in
    subst (λ n. first_among (λ r. get_or xs r 0) c.args.number n ≡ None) next
    (none_over (λ r. get_or xs r 0) c.args.number at 96 c.loop-run.invariant
    (λ i below is. c.has.ensures c.if-has.false i (omega (arith, below, long)) (part_at at (at + 96 - at) i xs (omega (arith, below)) ∙ is)))
