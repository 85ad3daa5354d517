use Rattle.upgrades.proofs.Names.{arith, rules}
use Rattle.upgrades.proofs.Versions.{small_is_bad}
use Rattle.upgrades.specs.Old.{version_in}
use Rattle.upgrades.proofs.finding.read_version.Goals as goal

pub returns-then-sectors-le-KIND_SECTOR-clause-looks : goal.returns-then-sectors-le-KIND_SECTOR-clause-looks
returns-then-sectors-le-KIND_SECTOR-clause-looks g c = record {
  looks = search rules;
  bad = λ k _. small_is_bad (version_in (g.D.SectorDisk.content c.args.disk.now)) (g.D.SectorDisk.sector_count c.args.disk.now) (g.D.SectorDisk.content c.args.disk.now) (omega (arith, c.if-sectors-le-KIND_SECTOR.true, c.sectors.ensures));
  no_journal = search rules;
}
