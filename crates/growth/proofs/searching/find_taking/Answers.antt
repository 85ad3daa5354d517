use Rattle.std.proofs.Common.{List, subst, arith}
use Rattle.std.proofs.lemmas.Option.{slice_get_within}
use Rattle.directories.specs.declared.entry.Extent.{Extent}
use Rattle.growth.specs.Parts.{new_extents, IsApartFrom}
use Rattle.growth.proofs.Listed.{no_change, one_more}
use Rattle.growth.proofs.Found.{none_met}
use Rattle.growth.proofs.searching.find_taking.Goals as goal

pub loop-change-preserved : goal.loop-change-preserved
loop-change-preserved c = one_more (λ m d. IsApartFrom (new_extents c.args.before.now d) c.args.extent.now) c.args.changes.now c.loop-change.change-index no_change c.loop-change.invariant
    (subst (λ (xs : List Extent). IsApartFrom xs c.args.extent.now) c.new_extents.ensures.extents (none_met c.new_extents.result.now c.args.extent.now c.find_meeting.result c.find_meeting.ensures c.if-is_some.ensures))

pub returns : goal.returns
returns c = λ m d is. c.loop-change.invariant m d (let inside = slice_get_within c.args.changes.now m d is in omega arith) is
