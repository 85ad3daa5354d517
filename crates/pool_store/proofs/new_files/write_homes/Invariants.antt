use Rattle.pool_store.proofs.Names.{◌≡◌, ◌+◌, drop, length, NamesOnce}
use Rattle.file_store.{specs.{Format.{total_pages, AreWhole}, Making.{Makes}}}
use Rattle.pool_store.specs.Format.{IsHomeSector, HomesHoldFiles, new_pages}
use Rattle.pool_store.proofs.new_files.write_homes.Given as goal

-- the first f files are written
abbrev pub invariant-loop-f : goal.invariant-loop-f
invariant-loop-f g l = record {
  run : Makes g.D.SectorDisk (IsHomeSector l.fn.sizes.blocks new_pages (new_pages + total_pages l.initial.sources)) l.initial.disk l.disk;
  once : NamesOnce (IsHomeSector l.fn.sizes.blocks new_pages l.first) (g.D.SectorDisk.asked l.initial.disk) (g.D.SectorDisk.asked l.disk);
  calm : g.D.SectorDisk.failures l.disk ≡ g.D.SectorDisk.failures l.initial.disk;
  length : length l.sources ≡ length l.initial.sources;
  rest : l.first + total_pages (drop l.f l.sources) ≡ new_pages + total_pages l.initial.sources;
  behind : drop l.f l.sources ≡ drop l.f l.initial.sources;
  whole : AreWhole g.R.Read.remaining l.initial.sources l.f;
  files : g.D.SectorDisk.keeps_model l.disk → HomesHoldFiles l.fn.sizes.blocks g.R.Read.remaining l.initial.sources l.f (g.D.SectorDisk.content l.disk);
}
