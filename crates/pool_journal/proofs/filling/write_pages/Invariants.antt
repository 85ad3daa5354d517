use Rattle.std.proofs.Common.{◌≡◌, length}
use Rattle.disk_model.specs.Stop.{NamesOnce}
use Rattle.pool_journal.specs.Filling.{IsFilled, HoldsSlots}
use Rattle.sync_journal.specs.{Runs.{RunsOnDevice}, Source.{Asks, IsTold}}
use Rattle.pool_journal.proofs.filling.write_pages.Given as goal

-- the first j slots are written
abbrev pub invariant-loop-j : goal.invariant-loop-j
invariant-loop-j g l = (length l.page ≡ 4096) × RunsOnDevice g.D.SectorDisk (IsFilled l.sizes.blocks l.slots (length l.slots)) l.fn.disk l.disk × Asks g.S.PageSource l.fn.source l.source
    × (g.D.SectorDisk.keeps_model l.disk → HoldsSlots l.sizes.blocks l.slots l.j (IsTold g.S.PageSource l.fn.source l.source) (g.S.PageSource.pages l.fn.source) (g.D.SectorDisk.content l.disk))
    × (g.D.SectorDisk.failures l.disk ≡ g.D.SectorDisk.failures l.fn.disk) × (g.S.PageSource.failures l.source ≡ g.S.PageSource.failures l.fn.source)
    × NamesOnce (IsFilled l.sizes.blocks l.slots l.j) (g.D.SectorDisk.asked l.fn.disk) (g.D.SectorDisk.asked l.disk)
