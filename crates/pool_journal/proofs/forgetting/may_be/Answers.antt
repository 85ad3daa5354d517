use Rattle.std.proofs.Common.{◌<◌, ◌+◌, ◌-◌, ◌%◌, get_or, length, arith}
use Rattle.std.proofs.lemmas.Bool.{Decides.{nat_tests}}
use Rattle.pool_journal.proofs.Taken.{but_left}
use Rattle.pool_journal.proofs.forgetting.may_be.Goals as goal

pub returns-then-homes-eq0 : goal.returns-then-homes-eq0
returns-then-homes-eq0 c = λ is. but_left c.args.homes.now c.args.number c.requires (λ some low high. (let none = c.if-homes-eq0.true in omega (arith, some, none)))

pub returns : goal.returns
returns c = λ is.
    let first = get_or c.args.homes.now 0 0 in
    let last = get_or c.args.homes.now (length c.args.homes.now - 1) 0 in
    let past : last - first < (c.args.number + (4294967296 - (first + 1) % 4294967296)) % 4294967296 = grind (arith, nat_tests) in
    let fits = c.ranges.number.fits in
    but_left c.args.homes.now c.args.number c.requires (λ some low high. omega (arith, past, low, high, fits))
