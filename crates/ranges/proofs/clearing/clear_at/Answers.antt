use Rattle.ranges.proofs.{BetweenEntries.{none_at}, ClearedPages.{pages_none, tables-refl}, ClearedPlaces.{form_at, placed_at, past, lacks_at, taken_at}, Names.{◌+◌, sym, ◌∙◌, arith, rules, Picture, picture_of}}
use Rattle.ranges.proofs.clearing.clear_at.Goals as goal

pub set_in-requires-clause-placed : goal.set_in-requires-clause-placed
set_in-requires-clause-placed g c = placed_at c.args.core.now c.args.row.now c.args.index c.args.end c.number_in-number.result.0 c.requires.row c.requires.below c.number_in-number.ensures

pub give_back_frame-requires-clause-own : goal.give_back_frame-requires-clause-own
give_back_frame-requires-clause-own g c = sym c.is_private.ensures ∙ c.if-is_private.true

pub give_back_frame-requires-clause-lacks : goal.give_back_frame-requires-clause-lacks
give_back_frame-requires-clause-lacks g c =
    lacks_at c.args.core.now c.args.row.now c.args.index c.args.end c.number_in-number.result.0 c.requires.row c.requires.below c.number_in-number.ensures c.set_in.new.memory c.set_in.ensures.sets

pub returns-then-is_private : goal.returns-then-is_private
returns-then-is_private g c =
    taken_at c.args.core.now c.args.row.now c.args.index c.args.end c.number_in-number.result.0 c.requires.row c.requires.below c.number_in-number.ensures c.set_in.new.memory c.set_in.ensures.sets
    c.give_back_frame.new.core c.give_back_frame.ensures.gives c.give_back_frame.ensures.fit (search rules) (search rules)

pub set_in-requires-2-clause-placed : goal.set_in-requires-2-clause-placed
set_in-requires-2-clause-placed g c = placed_at c.args.core.now c.args.row.now c.args.index c.args.end c.number_in-number.result.0 c.requires.row c.requires.below c.number_in-number.ensures

pub give_back_slot-requires-clause-form : goal.give_back_slot-requires-clause-form
give_back_slot-requires-clause-form g c = form_at c.args.core.now c.args.row.now c.args.index c.args.end c.number_in-number.result.0 c.requires.row c.requires.below c.number_in-number.ensures

pub give_back_slot-requires-clause-common : goal.give_back_slot-requires-clause-common
give_back_slot-requires-clause-common g c = sym c.is_private.ensures ∙ c.if-is_private.false

pub give_back_slot-requires-clause-lacks : goal.give_back_slot-requires-clause-lacks
give_back_slot-requires-clause-lacks g c =
    lacks_at c.args.core.now c.args.row.now c.args.index c.args.end c.number_in-number.result.0 c.requires.row c.requires.below c.number_in-number.ensures c.set_in-2.new.memory c.set_in-2.ensures.sets

pub returns-then-to_u64-eq0 : goal.returns-then-to_u64-eq0
returns-then-to_u64-eq0 g c =
    let old : Picture g.M.Levels.mode = picture_of c.args.core.now in
    let at = c.args.row.now in
    let q = c.requires.row in
    let next = c.next_place.ensures in
    let within = next.within in
    let none = sym c.to_u64.ensures ∙ c.if-to_u64-eq0.true in
    let pages = pages_none c.args.core.now at.pid (at.first + c.args.index) (at.first + c.next_place.result) q.fit
    (λ p h least under. none_at old at.pid at.root.0 at.table.0 at.first c.args.index c.next_place.result q.root q.place q.begins (omega (arith, within, q.in_table)) next.passed p least under) in
    let further = past old at.root.0 at.table.0 at.first c.args.index c.args.end c.number_in-number.result.0 c.next_place.result q.place q.begins c.requires.below q.in_table
    c.number_in-number.ensures none next.from next.found in
    let tables = tables-refl c.args.core.now.frames in
    search rules

pub returns : goal.returns
returns g c =
    taken_at c.args.core.now c.args.row.now c.args.index c.args.end c.number_in-number.result.0 c.requires.row c.requires.below c.number_in-number.ensures c.set_in-2.new.memory c.set_in-2.ensures.sets
    c.give_back_slot.new.core c.give_back_slot.ensures.gives c.give_back_slot.ensures.fit (search rules) (search rules)
