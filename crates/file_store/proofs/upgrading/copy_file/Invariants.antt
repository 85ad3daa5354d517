use Rattle.file_store.{proofs.Names.{◌≡◌, NamesOnce, Nothing, RunsOnDevice, One}, specs.{Making.{Makes}, Upgrade.{IsOldPage, IsFileSector, HoldsOldPages}}}
use Rattle.file_store.proofs.upgrading.copy_file.Given as goal

abbrev pub invariant-loop-k : goal.invariant-loop-k
invariant-loop-k g l = record {
  old_run : RunsOnDevice g.D.SectorDisk Nothing l.initial.old l.old;
  once_old : g.D.SectorDisk.keeps_model l.old → NamesOnce (IsOldPage One (g.D.SectorDisk.content l.initial.old) l.entry l.k) (g.D.SectorDisk.asked l.initial.old) (g.D.SectorDisk.asked l.old);
  run : Makes g.E.SectorDisk (IsFileSector l.entry) l.initial.new l.new;
  old_calm : g.D.SectorDisk.failures l.old ≡ g.D.SectorDisk.failures l.initial.old;
  calm : g.E.SectorDisk.failures l.new ≡ g.E.SectorDisk.failures l.initial.new;
  pages : g.D.SectorDisk.keeps_model l.old → g.E.SectorDisk.keeps_model l.new
      → HoldsOldPages (g.D.SectorDisk.content l.initial.old) l.entry l.k (g.E.SectorDisk.content l.new);
}
