use Rattle.file_store.{proofs.Names.{◌≡◌, ◌+◌, drop, length, NamesOnce}, specs.{Format.{total_pages, IsHomesBetween, HoldsFiles, AreWhole}, Making.{Makes}}}
use Rattle.file_store.proofs.formatting.write_homes.Given as goal

abbrev pub invariant-loop-f : goal.invariant-loop-f
invariant-loop-f g l = record {
  run : Makes g.D.SectorDisk (IsHomesBetween 0 (total_pages l.initial.sources)) l.initial.disk l.disk;
  once : NamesOnce (IsHomesBetween 0 l.first) (g.D.SectorDisk.asked l.initial.disk) (g.D.SectorDisk.asked l.disk);
  calm : g.D.SectorDisk.failures l.disk ≡ g.D.SectorDisk.failures l.initial.disk;
  length : length l.sources ≡ length l.initial.sources;
  rest : l.first + total_pages (drop l.f l.sources) ≡ total_pages l.initial.sources;
  behind : drop l.f l.sources ≡ drop l.f l.initial.sources;
  whole : AreWhole g.R.Read.remaining l.initial.sources l.f;
  files : g.D.SectorDisk.keeps_model l.disk → HoldsFiles g.R.Read.remaining l.initial.sources l.f (g.D.SectorDisk.content l.disk);
}
