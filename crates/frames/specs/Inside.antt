-- What the fields of `Frames` stand for.
use Rattle.frames.specs.declared.memory.Frames.TheInside.{Inside}
use Rattle.frames.specs.FrameTable.{FrameTable, IsSound}
use Rattle.frames.specs.Chain.{IsChained}

abbrev pub table_of : Inside → FrameTable
table_of f = record { bytes = f.bytes.items; roles = f.roles.items; counts = f.counts.items }

-- sound, and the free frames hang together
abbrev pub IsWholeMemory : Inside → Type 0
IsWholeMemory f = IsSound (table_of f) × IsChained (table_of f) f.first_free
