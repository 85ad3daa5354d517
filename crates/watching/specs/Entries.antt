-- What an entry says, by its kind.
use Rattle.std.specs.Prelude.{ℕ, ◌==◌, if◌then◌else◌}
use Rattle.sv39_walk.specs.Entry.{is_pointer, is_swapped, is_valid}
use Rattle.watching.specs.declared.texts.Said.{Said}
use Rattle.watching.specs.declared.texts.Said.TheVariants.{Nothing, Table, Slot, Leaf, Parked}

-- nothing, where it is 0; a pointer names a table; what else is not valid names a slot, or parks a frame
abbrev pub said_in : ℕ → Said
said_in e = if e == 0 then Nothing else (if is_pointer e then Table else (if is_swapped e then Slot else (if is_valid e then Leaf else Parked)))
