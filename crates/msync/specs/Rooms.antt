-- How large the lists are in which what an msync takes is gathered.
use Rattle.std.specs.Prelude.{length}
use Rattle.msync.specs.declared.room.TakenLists.{TakenLists}
use Rattle.msync.specs.Shows.{RoomSize}

abbrev pub size_of : TakenLists → RoomSize
size_of lists = record { most = length lists.pages.items; ranks = length lists.ranks.items; files = length lists.files.items }
