use Rattle.pool_store.proofs.Names.{length, ap, subst, sym, arith, ◌∙◌}
use Rattle.file_store.specs.{Format.{AreWhole, HasReader, total_pages}, Making.{FillsHomes}}
use Rattle.pool_journal.specs.Pools.{pool_home_count}
use Rattle.pool_store.specs.{Format.{IsInnerPoolOf, IsUnmarkedPoolSector}, Formatted.{WritesKindLast}}
use Rattle.pool_store.proofs.formatting.write_unmarked.Goals as goal

pub write_kind_last-requires-clause-pool : goal.write_kind_last-requires-clause-pool
write_kind_last-requires-clause-pool g c =
    let is = c.of-sizes.ensures in
    record {
      sized = (omega (arith, is.blocks, c.requires.maps.0), omega (arith, is.blocks, c.requires.maps.1));
      room = omega (arith, is.blocks, c.requires.room);
      homes = is.homes ∙ ap (pool_home_count c.args.blocks) c.sectors.ensures ∙ ap (λ m. pool_home_count m (g.D.SectorDisk.sector_count c.args.disk.now)) (sym is.blocks);
    }

pub write_kind_last-requires-clause-homes : goal.write_kind_last-requires-clause-homes
write_kind_last-requires-clause-homes g c =
    let count = c.of-sizes.ensures.homes ∙ ap (pool_home_count c.args.blocks) c.sectors.ensures in
    omega (arith, count, c.requires.homes)

pub returns-clause-fills : goal.returns-clause-fills
returns-clause-fills g c =
    let sources = c.args.sources.now in
    subst (λ m. FillsHomes g.D.SectorDisk (IsUnmarkedPoolSector m (total_pages sources)) (HasReader sources) (AreWhole g.R.Read.remaining sources (length sources)) c.args.disk.now c.write_kind_last.new.disk c.write_kind_last.result)
    c.of-sizes.ensures.blocks c.write_kind_last.ensures.fills

pub returns-clause-last : goal.returns-clause-last
returns-clause-last g c = λ keeps.
    subst (λ m. WritesKindLast g.D.SectorDisk m (IsInnerPoolOf m g.R.Read.remaining c.args.sources.now) c.args.disk.now c.write_kind_last.new.disk c.write_kind_last.result)
    c.of-sizes.ensures.blocks (c.write_kind_last.ensures.last keeps)
