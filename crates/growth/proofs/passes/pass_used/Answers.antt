use Rattle.std.proofs.Common.{List, subst}
use Rattle.directories.specs.declared.entry.Extent.{Extent}
use Rattle.growth.specs.Room.{IsOf, PassesOver}
use Rattle.growth.proofs.Passed.{passes_used}
use Rattle.growth.proofs.passes.pass_used.Goals as goal

pub returns : goal.returns
returns c =
    let low = c.pass_files-behind_files.result in
    let high = c.pass_changes-behind_changes.result in
    passes_used c.args.before.now c.args.changes.now c.args.entry.now c.args.count c.args.first low high c.pass_extents.result
    c.pass_files-behind_files.ensures c.pass_changes-behind_changes.ensures
    (subst (λ (xs : List Extent). PassesOver (IsOf xs) c.args.count high c.pass_extents.result) c.extents.ensures.extents c.pass_extents.ensures)
