use Rattle.std.proofs.Common.{◌+◌, ℕ, get_or, length, sym, arith}
use Rattle.pool_journal.proofs.Found.{first_stays, first_here, none_more}
use Rattle.pool_journal.proofs.searches.first_place.Goals as goal

pub returns-then-numbers-place : goal.returns-then-numbers-place
returns-then-numbers-place c =
    let names : ℕ → ℕ = λ r. get_or c.args.numbers.now r 0 in
    let j = c.loop-place.place in
    sym (first_stays names c.args.number (j + 1) j (length c.args.numbers.now) (first_here names c.args.number j c.loop-place.invariant c.if-numbers-place.true) (omega (arith, c.loop-place-test.true)))

pub loop-place-preserved : goal.loop-place-preserved
loop-place-preserved c = none_more (λ r. get_or c.args.numbers.now r 0) c.args.number c.loop-place.place c.loop-place.invariant c.if-numbers-place.false
