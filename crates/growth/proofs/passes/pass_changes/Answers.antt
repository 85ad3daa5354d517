use Rattle.std.proofs.Common.{◌≡◌, List, slice_get, get_or, sym, subst, arith, Some}
use Rattle.std.proofs.lemmas.Option.{slice_get-get_or, get_or_from_slice_get, slice_get_within}
use Rattle.directories.specs.declared.entry.Extent.{Extent}
use Rattle.growth.specs.Parts.{extents_of_file}
use Rattle.growth.specs.Room.{IsOf, IsOfChange, PassesOver}
use Rattle.growth.specs.declared.changes.Change.{Change}
use Rattle.growth.proofs.Listed.{no_change}
use Rattle.growth.proofs.Passed.{Front, passes_more, passes_as}
use Rattle.growth.proofs.passes.pass_changes.Goals as goal

pub loop-change-preserved : goal.loop-change-preserved
loop-change-preserved c =
    let changes = c.args.changes.now in
    let i = c.loop-change.change-index in
    passes_more (λ j y. (d : Change) × (slice_get changes j ≡ Some d) × IsOf (extents_of_file d.entry) y) (IsOf (extents_of_file (get_or changes i no_change).entry)) c.args.count i c.args.first
    c.loop-change.behind c.pass_extents-behind.result c.loop-change.invariant
    (subst (λ (xs : List Extent). PassesOver (IsOf xs) c.args.count c.loop-change.behind c.pass_extents-behind.result) c.extents_of_file.ensures.extents c.pass_extents-behind.ensures)
    (λ y is. (get_or changes i no_change, slice_get-get_or changes i no_change (omega arith), is))
    (λ y is. subst (λ (d : Change). IsOf (extents_of_file d.entry) y) (sym (get_or_from_slice_get changes i is.0 no_change is.1)) is.2)

pub returns : goal.returns
returns c =
    let changes = c.args.changes.now in
    passes_as (Front (λ j y. (d : Change) × (slice_get changes j ≡ Some d) × IsOf (extents_of_file d.entry) y) c.loop-change.change-index) (IsOfChange changes) c.args.count c.args.first
    c.loop-change.behind c.loop-change.invariant
    (λ y is. (is.0, is.2.0, is.2.1, is.2.2))
    (λ y is. (is.0, let inside = slice_get_within changes is.0 is.1 is.2 in omega (arith, inside), (is.1, is.2, is.3)))
