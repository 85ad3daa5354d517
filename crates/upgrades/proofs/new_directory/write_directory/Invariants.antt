use Rattle.upgrades.proofs.Names.{◌≡◌, NamesOnce, RunsOnDevice}
use Rattle.pool_store.specs.Format.{IsHomeSector, new_pages}
use Rattle.upgrades.specs.NewPool.{HoldsDirectory, files_in}
use Rattle.upgrades.proofs.new_directory.write_directory.Given as goal

-- the first pages are written
abbrev pub invariant-loop-page : goal.invariant-loop-page
invariant-loop-page g l = record {
  run : RunsOnDevice g.D.SectorDisk (IsHomeSector l.fn.sizes.blocks 0 new_pages) l.fn.disk l.disk;
  once : NamesOnce (IsHomeSector l.fn.sizes.blocks 0 l.page) (g.D.SectorDisk.asked l.fn.disk) (g.D.SectorDisk.asked l.disk);
  calm : g.D.SectorDisk.failures l.disk ≡ g.D.SectorDisk.failures l.fn.disk;
  holds : g.D.SectorDisk.keeps_model l.disk → HoldsDirectory l.fn.sizes.blocks (files_in l.files) l.page (g.D.SectorDisk.content l.disk);
}
