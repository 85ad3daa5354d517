use Rattle.std.proofs.Common.{arith}
use Rattle.pool_growth.proofs.New.{fresh_few}
use Rattle.pool_journal.proofs.Free.{free_most}
use Rattle.pool_journal.specs.Maps.{entries_of}
use Rattle.pool_growth.proofs.slots.put_count.Goals as goal

pub overflow_add-new : goal.overflow_add-new
overflow_add-new g c =
    let store = c.args.store.now in
    let new = fresh_few store.journal.sizes.homes store.directory c.args.asked.changes.now c.requires.changes c.args.asked.fresh.now c.requires.fresh in
    let most = free_most store.journal.sizes.blocks (entries_of store.journal.map) in
    let few = c.requires.pages.few in
    let sized = c.requires.ready.is_journal.sized.1 in
    omega (arith, new, most, few, sized, c.requires.ready.pool.homes)

pub overflow_add-new-then-new-le-MOST_IN_SLOTS : goal.overflow_add-new-then-new-le-MOST_IN_SLOTS
overflow_add-new-then-new-le-MOST_IN_SLOTS g c =
    let store = c.args.store.now in
    let new = fresh_few store.journal.sizes.homes store.directory c.args.asked.changes.now c.requires.changes c.args.asked.fresh.now c.requires.fresh in
    let most = free_most store.journal.sizes.blocks (entries_of store.journal.map) in
    let few = c.requires.pages.few in
    let sized = c.requires.ready.is_journal.sized.1 in
    omega (arith, new, most, few, sized, c.requires.ready.pool.homes, c.count_changed-front.ensures)
