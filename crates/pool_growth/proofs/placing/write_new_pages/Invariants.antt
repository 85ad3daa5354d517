use Rattle.std.proofs.Common.{◌≡◌, length}
use Rattle.disk_model.specs.Stop.{NamesOnce}
use Rattle.pool_growth.specs.Putting.{IsPutSector, HoldsNewPages}
use Rattle.sync_journal.specs.{Runs.{RunsOnDevice}, Source.{Asks}}
use Rattle.pool_growth.proofs.placing.write_new_pages.Given as goal

-- the first i new pages are written
abbrev pub invariant-loop-i : goal.invariant-loop-i
invariant-loop-i g l = record {
  size : length l.bytes ≡ 4096;
  run : RunsOnDevice g.D.SectorDisk (IsPutSector l.journal l.directory l.pages.changes.now l.pages.fresh.now l.pages.count) l.fn.disk l.disk;
  asks : Asks g.S.PageSource l.fn.source l.source;
  holds : g.D.SectorDisk.keeps_model l.disk → g.S.PageSource.keeps_model l.source
      → HoldsNewPages l.journal l.directory l.pages.changes.now l.pages.fresh.now (g.S.PageSource.pages l.fn.source) l.i (g.D.SectorDisk.content l.disk);
  device_calm : g.D.SectorDisk.failures l.disk ≡ g.D.SectorDisk.failures l.fn.disk;
  source_calm : g.S.PageSource.failures l.source ≡ g.S.PageSource.failures l.fn.source;
  once : NamesOnce (IsPutSector l.journal l.directory l.pages.changes.now l.pages.fresh.now l.i) (g.D.SectorDisk.asked l.fn.disk) (g.D.SectorDisk.asked l.disk);
}
