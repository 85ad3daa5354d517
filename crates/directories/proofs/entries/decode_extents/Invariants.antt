use Rattle.std.proofs.Common.{◌≡◌, length}
use Rattle.directories.specs.Entries.{HoldsExtents}
use Rattle.directories.proofs.entries.decode_extents.Given as goal

abbrev pub invariant-loop-i : goal.invariant-loop-i
invariant-loop-i l = record { size : length l.extents ≡ 30; held : HoldsExtents l.bytes l.extents l.i }
