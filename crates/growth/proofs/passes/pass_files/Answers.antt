use Rattle.std.proofs.Common.{ℕ, List, subst, arith}
use Rattle.directories.specs.Layouts.{entry_in, IsExtent}
use Rattle.directories.specs.declared.entry.Extent.{Extent}
use Rattle.growth.specs.Room.{IsOf, IsOfFile, PassesOver}
use Rattle.growth.specs.Parts.{extents_of_file}
use Rattle.growth.proofs.Found.{is_extent, has_extent, in_list}
use Rattle.growth.proofs.Passed.{Front, passes_more, passes_as}
use Rattle.growth.proofs.passes.pass_files.Goals as goal

pub loop-entry-preserved : goal.loop-entry-preserved
loop-entry-preserved c =
    let entries = c.args.entries.now in
    let f = c.loop-entry.entry-index in
    passes_more (λ g y. (j : ℕ) × IsExtent entries g j y) (IsOf (extents_of_file (entry_in entries f))) c.args.count f c.args.first c.loop-entry.behind c.pass_extents-behind.result
    c.loop-entry.invariant
    (subst (λ (xs : List Extent). PassesOver (IsOf xs) c.args.count c.loop-entry.behind c.pass_extents-behind.result) c.extents_of_file.ensures.extents c.pass_extents-behind.ensures)
    (λ y is. (is.0, is_extent entries f is.0 y is.1))
    (λ y is. (is.0, has_extent entries f is.0 y is.1))

pub returns : goal.returns
returns c =
    let entries = c.args.entries.now in
    passes_as (Front (λ g y. (j : ℕ) × IsExtent entries g j y) c.loop-entry.entry-index) (IsOfFile entries) c.args.count c.args.first c.loop-entry.behind c.loop-entry.invariant
    (λ y is. (is.0, is.2.0, is.2.1))
    (λ y is. (is.0, let inside = in_list entries is.0 is.1 y is.2 in omega (arith, inside), (is.1, is.2)))
