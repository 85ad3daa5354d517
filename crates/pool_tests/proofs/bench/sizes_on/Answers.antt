use Rattle.std.proofs.Common.{◌∙◌, ap, sym, arith}
use Rattle.disk_model.specs.SimDisk.{sectors_in}
use Rattle.pool_journal.specs.Pools.{pool_home_count}
use Rattle.pool_tests.proofs.bench.sizes_on.Goals as goal

pub returns : goal.returns
returns c = record {
  sized = (omega (arith, c.of.ensures.blocks), omega (arith, c.of.ensures.blocks));
  room = omega (arith, c.of.ensures.blocks, c.requires);
  homes = c.of.ensures.homes ∙ ap (pool_home_count 1) c.sectors.ensures ∙ ap (λ m. pool_home_count m (sectors_in c.args.disk.now.disk)) (sym c.of.ensures.blocks);
}
