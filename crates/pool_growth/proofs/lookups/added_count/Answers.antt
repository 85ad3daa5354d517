use Rattle.std.proofs.Common.{◌≡◌, ◌<◌, get_or, length, arith, rules}
use Rattle.growth.proofs.Listed.{no_change}
use Rattle.pool_growth.proofs.{New.{added_few}, Rest.{counted}}
use Rattle.pool_growth.specs.Files.{added}
use Rattle.pool_store.specs.Store.{info_by}
use Rattle.pool_growth.proofs.lookups.added_count.Goals as goal

pub overflow_add-count : goal.overflow_add-count
overflow_add-count c =
    let changes = c.args.changes.now in
    let i = c.loop-change.change-index in
    let inside : i < length changes = omega arith in
    let count : c.added-count.result ≡ added (info_by c.args.directory.now) (get_or changes i no_change) = search rules in
    let more = counted changes i inside (info_by c.args.directory.now) in
    let few = added_few c.requires.0 c.args.directory.now changes c.requires.1 in
    omega (arith, c.loop-change.invariant, more, count, few)
