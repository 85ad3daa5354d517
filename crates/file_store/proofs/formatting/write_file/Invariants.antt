use Rattle.file_store.{proofs.Names.{◌≡◌, ◌≤◌, ◌+◌, ◌*◌, min, ℕ, List, Some, drop, length, NamesOnce, IsSome}, specs.{Format.{info_of, told_by, reader_tells, IsHomesBetween, HoldsSourcePages}, Layout.{pages_of_length}, Making.{Makes}}}
use Rattle.file_store.proofs.formatting.write_file.Given as goal

abbrev pub invariant-loop-k : goal.invariant-loop-k
invariant-loop-k g l = record {
  run : Makes g.D.SectorDisk (IsHomesBetween l.first (l.first + pages_of_length l.initial.source.length)) l.initial.disk l.disk;
  once : NamesOnce (IsHomesBetween l.first (l.first + l.k)) (g.D.SectorDisk.asked l.initial.disk) (g.D.SectorDisk.asked l.disk);
  few : l.k ≤ pages_of_length l.initial.source.length;
  calm : g.D.SectorDisk.failures l.disk ≡ g.D.SectorDisk.failures l.initial.disk;
  info : info_of l.source ≡ info_of l.initial.source;
  left : (told : List ℕ) → told_by g.R.Read.remaining l.initial.source.bytes ≡ Some told
      → told_by g.R.Read.remaining l.source.bytes ≡ Some (drop (min l.initial.source.length (4096 * l.k)) told);
  tells : (told : List ℕ) → reader_tells g.R.Read.remaining l.initial.source.bytes ≡ Some told
      → (min l.initial.source.length (4096 * l.k) ≤ length told)
      × (reader_tells g.R.Read.remaining l.source.bytes ≡ Some (drop (min l.initial.source.length (4096 * l.k)) told));
  reader : IsSome l.source.bytes → IsSome l.initial.source.bytes;
  pages : g.D.SectorDisk.keeps_model l.disk → HoldsSourcePages g.R.Read.remaining l.initial.source l.first l.k (g.D.SectorDisk.content l.disk);
}
