use Rattle.std.proofs.Common.{◌<◌, ◌-◌, get_or, ⊎_elim, subst, sym, arith}
use Rattle.std.proofs.lemmas.Bool.{cases_eq}
use Rattle.pool_tests.proofs.bench.are_rising.Goals as goal

pub loop-i-preserved : goal.loop-i-preserved
loop-i-preserved c =
    let homes = c.args.homes.now in
    let i = c.loop-i.i in
    let inv = c.loop-i.invariant in
    let low = c.is_next.ensures.low c.if-not-is_next.false in
    let above = c.is_next.ensures.above c.if-not-is_next.false in (
      λ a b less below. ⊎_elim
          (λ last. subst (λ k. get_or homes a 0 < get_or homes k 0) (sym last) (⊎_elim
          (λ none. absurd (omega (arith, less, last, none)))
          (λ more. ⊎_elim (λ before. subst (λ k. get_or homes k 0 < get_or homes i 0) (sym before) more)
          (λ other. (let less' = inv.0 a (i - 1) (omega (arith, less, last, other)) (omega (arith, less, last)) in omega (arith, less', more)))
          (cases_eq a (i - 1)))
          above))
          (λ other. inv.0 a b less (omega (arith, below, other)))
          (cases_eq b i),
      λ j below. ⊎_elim (λ last. subst (λ k. get_or homes k 0 < c.args.limit) (sym last) low) (λ other. inv.1 j (omega (arith, below, other))) (cases_eq j i),
    )

pub returns-clause-rising : goal.returns-clause-rising
returns-clause-rising c = λ is i j less below. c.loop-i.invariant.0 i j less (omega (arith, below, c.loop-i-test.false))

pub returns-clause-low : goal.returns-clause-low
returns-clause-low c = λ is j below. c.loop-i.invariant.1 j (omega (arith, below, c.loop-i-test.false))
