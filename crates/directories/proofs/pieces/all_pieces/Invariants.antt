use Rattle.std.proofs.Common.{◌≡◌, ◌++◌, drop}
use Rattle.directories.specs.Pieces.{pieces_of}
use Rattle.directories.proofs.pieces.all_pieces.Given as goal

abbrev pub invariant-loop-file : goal.invariant-loop-file
invariant-loop-file l = l.pieces.items ++ pieces_of l.file (drop l.file l.entries) ≡ pieces_of 0 l.entries
