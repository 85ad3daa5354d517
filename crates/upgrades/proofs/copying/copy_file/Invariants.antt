use Rattle.upgrades.proofs.Names.{◌≡◌, ◌+◌, ◌*◌, Some, NamesOnce, Nothing, RunsOnDevice}
use Rattle.sync_journal.specs.OldLayouts.{old_standing}
use Rattle.file_store.specs.{Layout.{pages_of_length}, Making.{Makes}, Standing.{page_standing_in}, Upgrade.{IsOldPage as IsPageOfEntry}}
use Rattle.upgrades.specs.{Copying.{IsBetween}, NewPool.{HoldsPages}}
use Rattle.upgrades.proofs.copying.copy_file.Given as goal

-- the first k pages are copied
abbrev pub invariant-loop-k : goal.invariant-loop-k
invariant-loop-k g l = record {
  old_run : RunsOnDevice g.D.SectorDisk Nothing l.initial.old l.old;
  once_old : g.D.SectorDisk.keeps_model l.old → NamesOnce (IsPageOfEntry l.store.journal.version (g.D.SectorDisk.content l.initial.old) l.entry l.k) (g.D.SectorDisk.asked l.initial.old) (g.D.SectorDisk.asked l.old);
  run : Makes g.E.SectorDisk (IsBetween l.start (l.start + 8 * pages_of_length l.entry.info.length)) l.initial.new l.new;
  once : NamesOnce (IsBetween l.start (l.start + 8 * l.k)) (g.E.SectorDisk.asked l.initial.new) (g.E.SectorDisk.asked l.new);
  old_calm : g.D.SectorDisk.failures l.old ≡ g.D.SectorDisk.failures l.initial.old;
  calm : g.E.SectorDisk.failures l.new ≡ g.E.SectorDisk.failures l.initial.new;
  held : g.D.SectorDisk.keeps_model l.old → g.E.SectorDisk.keeps_model l.new → HoldsPages l.start
      (λ k. page_standing_in (old_standing l.store.journal.version (g.D.SectorDisk.content l.initial.old)) k (Some l.entry)) l.k (g.E.SectorDisk.content l.new);
}
