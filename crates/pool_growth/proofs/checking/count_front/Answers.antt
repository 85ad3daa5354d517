use Rattle.std.proofs.Common.{◌≡◌, ◌<◌, get_or, length, arith, rules}
use Rattle.directories.proofs.Said.{no_extent}
use Rattle.pool_growth.proofs.Fronts.{front_more}
use Rattle.pool_growth.proofs.checking.count_front.Goals as goal

pub loop-i-preserved : goal.loop-i-preserved
loop-i-preserved c =
    let old = c.args.old.now in
    let new = c.args.new.now in
    let i = c.loop-i.i in
    let left : i < length old = omega arith in
    let right : i < length new = omega arith in
    let same : get_or old i no_extent ≡ get_or new i no_extent = search rules in
    let count : c.from-count.result ≡ (get_or new i no_extent).count = search rules in
    let more = front_more old new i left right same in
    record { so_far = omega (arith, c.loop-i.invariant.so_far, more, count); small = omega arith }
