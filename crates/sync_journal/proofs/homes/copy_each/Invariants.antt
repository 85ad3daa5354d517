use Rattle.sync_journal.{proofs.Names.{◌≡◌, NamesOnce}, specs.{Layout.{IsHomeSector, IsCopied}, Runs.{RunsOnDevice}, Standing.{AreCopied}}}
use Rattle.sync_journal.proofs.homes.copy_each.Given as goal

abbrev pub invariant-loop-j : goal.invariant-loop-j
invariant-loop-j g l = RunsOnDevice g.D.SectorDisk (IsHomeSector l.homes) l.fn.disk l.disk
    × (g.D.SectorDisk.keeps_model l.disk → AreCopied l.homes l.j (g.D.SectorDisk.content l.fn.disk) (g.D.SectorDisk.content l.disk))
    × (g.D.SectorDisk.failures l.disk ≡ g.D.SectorDisk.failures l.fn.disk)
    × NamesOnce (IsCopied l.homes l.j) (g.D.SectorDisk.asked l.fn.disk) (g.D.SectorDisk.asked l.disk)
