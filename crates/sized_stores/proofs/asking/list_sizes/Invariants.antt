use Rattle.std.proofs.Common.{◌≡◌, map, take}
use Rattle.std.specs.Vec.{vec_capacity}
use Rattle.sized_stores.specs.Commit.{size_asked}
use Rattle.sized_stores.proofs.asking.list_sizes.Given as goal

-- the lengths of the files before this one are listed
abbrev pub invariant-loop-file : goal.invariant-loop-file
invariant-loop-file l = (l.asked.items ≡ map (size_asked l.sizes) (take l.file-index l.files)) × (vec_capacity l.asked ≡ vec_capacity l.fn.asked)
