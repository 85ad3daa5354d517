use Rattle.std.proofs.Common.{◌∙◌, ap, sym, arith}
use Rattle.pool_journal.proofs.Copied.{slot_below, slot_inside}
use Rattle.pool_journal.specs.{Maps.{entries_of}, Pools.{pool_stands}}
use Rattle.pool_journal.proofs.reading.stands_at.Goals as goal

pub slot_of-requires-clause-size : goal.slot_of-requires-clause-size
slot_of-requires-clause-size c = (omega (arith, c.requires.size.0, c.requires.sized.1), omega (arith, c.requires.size.1, c.requires.sized.1))

pub slot-requires-clause-inside : goal.slot-requires-clause-inside
slot-requires-clause-inside c =
    let slot = c.in-Some.slot in
    slot_inside c.args.sizes.blocks (entries_of c.args.map.now) c.args.home (slot.second, slot.place) (c.in-Some.ensures c.args.sizes.blocks c.requires.size)

pub returns-in-Some-clause-at : goal.returns-in-Some-clause-at
returns-in-Some-clause-at c = c.slot.ensures ∙ sym (ap (pool_stands c.args.sizes.blocks c.args.home) (c.in-Some.ensures c.args.sizes.blocks c.requires.size))

pub returns-in-Some-clause-inside : goal.returns-in-Some-clause-inside
returns-in-Some-clause-inside c =
    let slot = c.in-Some.slot in
    let inside = slot_inside c.args.sizes.blocks (entries_of c.args.map.now) c.args.home (slot.second, slot.place) (c.in-Some.ensures c.args.sizes.blocks c.requires.size) in
    let low = slot_below c.args.sizes.blocks slot.second slot.place inside in
    omega (arith, low, c.slot.ensures)

pub returns-in-None-clause-at : goal.returns-in-None-clause-at
returns-in-None-clause-at c = c.home.ensures ∙ sym (ap (pool_stands c.args.sizes.blocks c.args.home) (c.in-None.ensures c.args.sizes.blocks c.requires.size))
