use Rattle.std.proofs.Common.{◌≡◌, ◌-◌, ◌∙◌, take, drop, length, length-drop, arith}
use Rattle.std.proofs.lemmas.List.{take_all}
use Rattle.growth.specs.Parts.{new_extents}
use Rattle.growth.proofs.extents.new_extents.Goals as goal

pub returns-clause-extents : goal.returns-clause-extents
unfolding new_extents
returns-clause-extents c =
    let xs = c.extents_of_file-extents.result.now in
    let k = c.count_kept-kept.result in
    let whole : take (length xs - k) (drop k xs) ≡ drop k xs = take_all (length xs - k) (drop k xs) (omega (arith, length-drop k xs)) in
    whole ∙ cc (c.extents_of_file-extents.ensures.extents, c.extents_of_file.ensures.extents, c.count_kept-kept.ensures.count)
