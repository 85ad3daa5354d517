use Rattle.directories.specs.Entries.{HoldsExtents, SameBelow}
use Rattle.directories.proofs.entries.encode_extents.Given as goal

abbrev pub invariant-loop-i : goal.invariant-loop-i
invariant-loop-i l = record { held : HoldsExtents l.bytes l.extents l.i; front : SameBelow 16 l.initial.bytes l.bytes }
