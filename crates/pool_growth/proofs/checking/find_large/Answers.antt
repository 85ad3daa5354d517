use Rattle.std.proofs.Common.{get_or, refl, arith}
use Rattle.std.proofs.lemmas.Option.{slice_get-get_or}
use Rattle.growth.proofs.Listed.{no_change}
use Rattle.pool_growth.proofs.checking.find_large.Goals as goal

pub returns-then-not-is_small : goal.returns-then-not-is_small
returns-then-not-is_small c =
    let changes = c.args.changes.now in
    let i = c.loop-change.change-index in
    (i, get_or changes i no_change, slice_get-get_or changes i no_change (omega arith), refl, c.if-not-is_small.ensures.one refl)
