use Rattle.upgrades.proofs.Names.{◌≡◌, NamesOnce, Nothing, RunsOnDevice}
use Rattle.file_store.specs.{Making.{Makes}}
use Rattle.pool_store.specs.Format.{IsHomeSector, new_pages}
use Rattle.upgrades.{proofs.Old.{IsOldFirst}, specs.{NewPool.{HoldsFiles, files_in, first_of}, Old.{standing_page}}}
use Rattle.upgrades.proofs.copying.copy_files.Given as goal

-- the first f files are copied
abbrev pub invariant-loop-f : goal.invariant-loop-f
invariant-loop-f g l = record {
  at : l.first ≡ first_of (files_in l.files) l.f;
  old_run : RunsOnDevice g.D.SectorDisk Nothing l.initial.old l.old;
  once_old : g.D.SectorDisk.keeps_model l.old → NamesOnce (IsOldFirst l.store.journal.version (g.D.SectorDisk.content l.initial.old) l.f) (g.D.SectorDisk.asked l.initial.old) (g.D.SectorDisk.asked l.old);
  run : Makes g.E.SectorDisk (IsHomeSector l.fn.sizes.blocks new_pages (first_of (files_in l.files) 64)) l.initial.new l.new;
  once : NamesOnce (IsHomeSector l.fn.sizes.blocks new_pages l.first) (g.E.SectorDisk.asked l.initial.new) (g.E.SectorDisk.asked l.new);
  old_calm : g.D.SectorDisk.failures l.old ≡ g.D.SectorDisk.failures l.initial.old;
  calm : g.E.SectorDisk.failures l.new ≡ g.E.SectorDisk.failures l.initial.new;
  held : g.D.SectorDisk.keeps_model l.old → g.E.SectorDisk.keeps_model l.new
      → HoldsFiles l.fn.sizes.blocks (files_in l.files) (standing_page (g.D.SectorDisk.content l.initial.old)) l.f (g.E.SectorDisk.content l.new);
}
