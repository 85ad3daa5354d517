use Rattle.std.proofs.Common.{◌≡◌, ◌+◌, ◌==◌, ◌∙◌, get_or, length, refl, sym, ap, arith, if◌then◌else◌}
use Rattle.pool_journal.proofs.{AllFree.{counts_more}, Found.{one_most, one_where}}
use Rattle.pool_journal.specs.Maps.{free_among}
use Rattle.pool_journal.proofs.searches.free_in.Goals as goal

pub loop-place-init : goal.loop-place-init
unfolding free_among
loop-place-init c = (λ body. refl, omega arith)

pub loop-place-preserved : goal.loop-place-preserved
loop-place-preserved c =
    let inv = c.loop-place.invariant in
    let number = get_or c.args.numbers.now c.loop-place.place 0 in
    let one = c.from-count.ensures ∙ one_where (number == 0) in (
      λ body. ap (λ k. c.loop-place.count + k) one ∙ ap (λ k. k + (if number == 0 then 1 else 0)) (inv.0 body) ∙ sym (counts_more (λ r. get_or c.args.numbers.now r 0) body c.loop-place.place),
      (let few = one_most (number == 0) in omega (arith, inv.1, one, few)),
    )

pub returns-clause-counted : goal.returns-clause-counted
returns-clause-counted c = λ body.
    let end : c.loop-place.place ≡ length c.args.numbers.now = omega (arith, c.loop-place.auto.place-end, c.loop-place-test.false) in
    c.loop-place.invariant.0 body ∙ ap (λ n. length (free_among (λ r. get_or c.args.numbers.now r 0) body n)) end
