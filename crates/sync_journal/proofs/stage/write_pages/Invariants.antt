use Rattle.sync_journal.{proofs.Names.{◌≡◌, length, NamesOnce}, specs.{Layout.{IsJournalSector, IsBodySector}, Runs.{RunsOnDevice}, Source.{Asks}, Standing.{HoldsPages}}}
use Rattle.sync_journal.proofs.stage.write_pages.Given as goal

abbrev pub invariant-loop-j : goal.invariant-loop-j
invariant-loop-j g l = (length l.page ≡ 4096) × RunsOnDevice g.D.SectorDisk IsJournalSector l.fn.disk l.disk × Asks g.S.PageSource l.fn.source l.source
    × (g.D.SectorDisk.keeps_model l.disk → g.S.PageSource.keeps_model l.source → HoldsPages l.j (g.S.PageSource.pages l.fn.source) (g.D.SectorDisk.content l.disk))
    × (g.D.SectorDisk.failures l.disk ≡ g.D.SectorDisk.failures l.fn.disk) × (g.S.PageSource.failures l.source ≡ g.S.PageSource.failures l.fn.source)
    × NamesOnce (IsBodySector l.j) (g.D.SectorDisk.asked l.fn.disk) (g.D.SectorDisk.asked l.disk)
