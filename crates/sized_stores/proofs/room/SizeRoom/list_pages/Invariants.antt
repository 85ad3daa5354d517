use Rattle.pool_store.specs.Store.{info_by}
use Rattle.sized_stores.proofs.Gathered.{GathersZeros, KeepsBeside}
use Rattle.sized_stores.proofs.room.SizeRoom.list_pages.Given as goal

-- those of the files before this one that are zeros stand behind the others that are picked
abbrev pub invariant-loop-file : goal.invariant-loop-file
invariant-loop-file l = GathersZeros (info_by l.asked.directory.now) l.asked.sizes.now l.asked.files.now l.asked.pages.now l.rest l.file-index l.initial.self.kept.pages.items l.self.kept.pages.items
    × KeepsBeside l.initial.self l.self
