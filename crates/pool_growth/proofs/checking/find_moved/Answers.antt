use Rattle.std.proofs.Common.{get_or, refl, arith, rules}
use Rattle.std.proofs.lemmas.Option.{slice_get-get_or}
use Rattle.growth.proofs.Listed.{no_change}
use Rattle.pool_growth.proofs.checking.find_moved.Goals as goal

pub returns-then-not-keeps_homes : goal.returns-then-not-keeps_homes
returns-then-not-keeps_homes c =
    let changes = c.args.changes.now in
    let i = c.loop-change.change-index in
    (i, get_or changes i no_change, slice_get-get_or changes i no_change (omega arith), refl, search rules)
