use Rattle.std.proofs.Common.{◌<◌, ◌-◌, get_or, length, arith}
use Rattle.std.proofs.lemmas.Bool.{Decides.{nat_tests}}
use Rattle.pool_journal.proofs.Taken.{not_ranked}
use Rattle.pool_journal.proofs.forgetting.is_between.Goals as goal

pub returns-then-homes-eq0-clause-out : goal.returns-then-homes-eq0-clause-out
returns-then-homes-eq0-clause-out c = λ is. not_ranked c.args.homes.now c.args.home c.requires (λ some low high. (let none = c.if-homes-eq0.true in omega (arith, some, none)))

pub returns-then-home-homes-clause-out : goal.returns-then-home-homes-clause-out
returns-then-home-homes-clause-out c = λ is. not_ranked c.args.homes.now c.args.home c.requires (λ some low high. (let before = c.if-home-homes.true in omega (arith, low, before)))

pub returns-clause-out : goal.returns-clause-out
returns-clause-out c = λ is.
    let behind : get_or c.args.homes.now (length c.args.homes.now - 1) 0 < c.args.home = grind (arith, nat_tests) in
    not_ranked c.args.homes.now c.args.home c.requires (λ some low high. omega (arith, behind, high))
