use Rattle.std.proofs.Common.{◌≡◌, ◌++◌, drop}
use Rattle.directories.specs.Pieces.{pieces_in}
use Rattle.directories.proofs.pieces.push_pieces.Given as goal

abbrev pub invariant-loop-place : goal.invariant-loop-place
invariant-loop-place l = l.pieces.items ++ pieces_in l.file l.place (drop l.place l.extents) ≡ l.initial.pieces.items ++ pieces_in l.file 0 l.extents
