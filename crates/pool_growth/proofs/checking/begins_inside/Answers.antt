use Rattle.std.proofs.Common.{ap, arith, ltb-true, ◌*◌}
use Rattle.std.specs.Option.{option_copied, option_map}
use Rattle.pool_store.specs.Files.{info_of}
use Rattle.pool_growth.proofs.checking.begins_inside.Goals as goal

pub returns-in-Some-clause-all : goal.returns-in-Some-clause-all
returns-in-Some-clause-all c = λ less.
    let page = c.from.ensures in
    let inside = ltb-true (4096 * c.from.result) c.in-Some.entry.now.length less in
    (info_of c.in-Some.entry.now, ap (λ r. option_map info_of (option_copied r)) c.in-Some.is, omega (arith, page, inside))
