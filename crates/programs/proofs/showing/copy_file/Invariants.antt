use Rattle.{std.{proofs.Common.{◌≡◌, ℕ, ◌*◌, List, Some, take}, specs.Io.KnownBytes.{Appends}}, stores.specs.Images.{standing_file}, programs.specs.Showing.{IsSectorOfFile, OnlyReads}}
use Rattle.programs.proofs.showing.copy_file.Given as goal
use Rattle.stores.specs.Store.{disk_of}

abbrev pub invariant-loop-k : goal.invariant-loop-k
invariant-loop-k g l = record {
  reads : OnlyReads g.D.SectorDisk (IsSectorOfFile l.initial.store l.file) l.initial.store l.store;
  calm : g.D.SectorDisk.failures (disk_of l.store) ≡ g.D.SectorDisk.failures (disk_of l.initial.store);
  written : g.D.SectorDisk.keeps_model (disk_of l.store) → (bytes : List ℕ) → standing_file (g.D.SectorDisk.sector_count (disk_of l.initial.store)) (g.D.SectorDisk.content (disk_of l.initial.store)) l.file ≡ Some bytes
      → Appends (g.W.Write.contents l.initial.writer) (g.W.Write.contents l.writer) (take (4096 * l.k) bytes);
}
