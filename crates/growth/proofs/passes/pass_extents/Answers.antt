use Rattle.std.proofs.Common.{◌≡◌, ◌∙◌, slice_get, ap, arith, Some, get_or}
use Rattle.std.proofs.lemmas.Option.{slice_get-get_or, get_or_from_slice_get, slice_get_within}
use Rattle.growth.specs.Room.{IsOf}
use Rattle.growth.proofs.Passed.{Front, passes_more, passes_as}
use Rattle.growth.proofs.passes.pass_extents.Goals as goal

pub loop-extent-preserved : goal.loop-extent-preserved
loop-extent-preserved c =
    let xs = c.args.extents.now in
    let i = c.loop-extent.extent-index in
    passes_more (λ j y. slice_get xs j ≡ Some y) (λ y. get_or xs i (record { first = 0; count = 0 }) ≡ y) c.args.count i c.args.first c.loop-extent.behind c.pass_extent-behind.result
    c.loop-extent.invariant c.pass_extent-behind.ensures
    (λ y is. slice_get-get_or xs i (record { first = 0; count = 0 }) (omega arith) ∙ ap Some is)
    (λ y is. get_or_from_slice_get xs i y (record { first = 0; count = 0 }) is)

pub returns : goal.returns
returns c =
    let xs = c.args.extents.now in
    passes_as (Front (λ j y. slice_get xs j ≡ Some y) c.loop-extent.extent-index) (IsOf xs) c.args.count c.args.first c.loop-extent.behind c.loop-extent.invariant
    (λ y is. (is.0, is.2))
    (λ y is. (is.0, let inside = slice_get_within xs is.0 y is.1 in omega (arith, inside), is.1))
