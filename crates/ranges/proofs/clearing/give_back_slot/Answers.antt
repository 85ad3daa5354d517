use Rattle.ranges.proofs.{Names.{rules, slots_of, InSlot, seat, Picture, picture_of, seat_common}, Returning.{lacks_some, lacks_none, slot_of, not_away, gives_none, fit_slot, gives_slot}}
use Rattle.ranges.proofs.clearing.give_back_slot.Goals as goal

pub release-requires : goal.release-requires
release-requires g c =
    let is = slot_of c.args.number.0 c.in-Swapped.slot.0 c.decode.result c.decode.ensures.number c.decode.ensures.form c.in-Swapped.is in
    (lacks_some (picture_of c.args.core.now) (seat c.args.number.0) (InSlot c.in-Swapped.slot.0) is c.requires.lacks).1.0

pub returns-in-Swapped : goal.returns-in-Swapped
returns-in-Swapped g c =
    let old : Picture g.M.Levels.mode = picture_of c.args.core.now in
    let is = slot_of c.args.number.0 c.in-Swapped.slot.0 c.decode.result c.decode.ensures.number c.decode.ensures.form c.in-Swapped.is in
    let lacks = lacks_some old (seat c.args.number.0) (InSlot c.in-Swapped.slot.0) is c.requires.lacks in
    let fit = fit_slot old c.in-Swapped.slot.0 lacks.0 lacks.1 (slots_of c.release.new.self) c.release.ensures.releases (seat c.args.number.0) is in
    let gives = gives_slot old c.in-Swapped.slot.0 lacks.0 lacks.1 (slots_of c.release.new.self) c.release.ensures.releases (seat c.args.number.0) is in
    search rules

pub returns-in_default : goal.returns-in_default
returns-in_default g c =
    let here = not_away c.args.number.0 c.decode.result c.decode.ensures.number c.decode.ensures.form c.in_default.not-Swapped in
    let none = seat_common c.args.number.0 c.requires.common here in
    let fit = lacks_none (picture_of c.args.core.now) (seat c.args.number.0) none c.requires.lacks in
    let gives = gives_none (picture_of c.args.core.now) (seat c.args.number.0) none in
    search rules
