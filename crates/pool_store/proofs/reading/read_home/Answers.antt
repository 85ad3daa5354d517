use Rattle.std.proofs.Common.{◌≡◌, ◌<◌, ◌∙◌, ap, subst, arith}
use Rattle.pool_journal.{proofs.Copied.{home_inside, home_low}, specs.{Pools.{pool_home}, declared.sizes.PoolSizes.{PoolSizes}}}
use Rattle.pool_store.proofs.reading.read_home.Goals as goal

pub read_page-requires-clause-room : goal.read_page-requires-clause-room
read_page-requires-clause-room g c =
    let blocks = c.args.journal.now.sizes.blocks in
    let at : c.home.result ≡ pool_home blocks c.args.home = c.home.ensures ∙ ap (λ (sizes : PoolSizes). pool_home sizes.blocks c.args.home) c.sizes.ensures in
    let inside = home_inside blocks (g.D.SectorDisk.sector_count c.args.disk.now) c.args.home (subst (λ n. c.args.home < n) c.requires.pool.homes c.requires.home) in
    omega (arith, inside, at)

pub read_page-requires-clause-fits : goal.read_page-requires-clause-fits
read_page-requires-clause-fits g c =
    let blocks = c.args.journal.now.sizes.blocks in
    let at : c.home.result ≡ pool_home blocks c.args.home = c.home.ensures ∙ ap (λ (sizes : PoolSizes). pool_home sizes.blocks c.args.home) c.sizes.ensures in
    let low = home_low blocks (g.D.SectorDisk.sector_count c.args.disk.now) c.args.home (subst (λ n. c.args.home < n) c.requires.pool.homes c.requires.home) in
    omega (arith, low, at, c.requires.pool.sized.1)
