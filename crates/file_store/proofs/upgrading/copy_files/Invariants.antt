use Rattle.file_store.{proofs.Copied.{IsOldFirst}, proofs.Names.{◌≡◌, NamesOnce, Nothing, RunsOnDevice}, specs.{Making.{Makes}, Store.{entry_of}, Upgrade.{IsFilesSector, HoldsOldFiles}}}
use Rattle.file_store.proofs.upgrading.copy_files.Given as goal

abbrev pub invariant-loop-f : goal.invariant-loop-f
invariant-loop-f g l = record {
  old_run : RunsOnDevice g.D.SectorDisk Nothing l.initial.old l.old;
  once_old : g.D.SectorDisk.keeps_model l.old → NamesOnce (IsOldFirst (g.D.SectorDisk.content l.initial.old) l.f) (g.D.SectorDisk.asked l.initial.old) (g.D.SectorDisk.asked l.old);
  run : Makes g.E.SectorDisk (IsFilesSector (entry_of l.store.directory)) l.initial.new l.new;
  old_calm : g.D.SectorDisk.failures l.old ≡ g.D.SectorDisk.failures l.initial.old;
  calm : g.E.SectorDisk.failures l.new ≡ g.E.SectorDisk.failures l.initial.new;
  files : g.D.SectorDisk.keeps_model l.old → g.E.SectorDisk.keeps_model l.new
      → HoldsOldFiles (g.D.SectorDisk.content l.initial.old) l.f (g.E.SectorDisk.content l.new);
}
