use Rattle.std.proofs.Common.{List, subst, arith}
use Rattle.directories.specs.declared.entry.Extent.{Extent}
use Rattle.growth.specs.Parts.{IsApartFrom}
use Rattle.growth.proofs.Found.{file_more, in_list}
use Rattle.growth.proofs.searching.find_held.Goals as goal

pub loop-file-preserved : goal.loop-file-preserved
loop-file-preserved c = file_more c.args.entries.now c.args.extent.now c.loop-file.file c.loop-file.invariant
    (subst (λ (xs : List Extent). IsApartFrom xs c.args.extent.now) c.extents_of_file.ensures.extents c.in_default.ensures)

pub returns : goal.returns
returns c = λ g j y is. c.loop-file.invariant g j y (let inside = in_list c.args.entries.now g j y is in omega arith) is
