use Rattle.std.proofs.Common.{◌≡◌}
use Rattle.disk_model.specs.{Moments.{AsksOnly}, Stop.{NamesOnce}}
use Rattle.pool_journal.proofs.Copied.{HoldsFrom}
use Rattle.pool_journal.specs.Copying.{IsBodyHome, IsBodyCopy, IsSingleBody}
use Rattle.sync_journal.specs.Runs.{RunsOnDevice}
use Rattle.pool_journal.proofs.copying.copy_body.Given as goal

-- the slots from a place on are copied
abbrev pub invariant-loop-place : goal.invariant-loop-place
invariant-loop-place g l = RunsOnDevice g.D.SectorDisk (IsBodyHome l.sizes.blocks l.numbers) l.fn.disk l.disk
    × (g.D.SectorDisk.keeps_model l.disk → HoldsFrom l.sizes.blocks l.second l.numbers l.place (g.D.SectorDisk.content l.fn.disk) (g.D.SectorDisk.content l.disk))
    × (g.D.SectorDisk.failures l.disk ≡ g.D.SectorDisk.failures l.fn.disk)
    × (IsSingleBody l.numbers → NamesOnce (IsBodyCopy l.sizes.blocks l.second l.numbers l.place) (g.D.SectorDisk.asked l.fn.disk) (g.D.SectorDisk.asked l.disk))
    × AsksOnly g.D.SectorDisk (IsBodyCopy l.sizes.blocks l.second l.numbers 0) l.fn.disk l.disk
