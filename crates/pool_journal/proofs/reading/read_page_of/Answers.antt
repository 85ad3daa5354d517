use Rattle.std.proofs.Common.{◌<◌, subst, arith}
use Rattle.pool_journal.proofs.Copied.{home_inside, home_low}
use Rattle.sync_journal.specs.Steps.{ReadsSectors}
use Rattle.pool_journal.proofs.reading.read_page_of.Goals as goal

pub stands_at-requires-clause-low : goal.stands_at-requires-clause-low
stands_at-requires-clause-low g c = home_low c.args.sizes.blocks (g.D.SectorDisk.sector_count c.args.disk.now) c.args.home (subst (λ n. c.args.home < n) c.requires.pool.homes c.requires.home)

pub read_page-requires-clause-room : goal.read_page-requires-clause-room
read_page-requires-clause-room g c =
    let inside = home_inside c.args.sizes.blocks (g.D.SectorDisk.sector_count c.args.disk.now) c.args.home (subst (λ n. c.args.home < n) c.requires.pool.homes c.requires.home) in
    omega (arith, inside, c.stands_at.ensures.inside)

pub read_page-requires-clause-fits : goal.read_page-requires-clause-fits
read_page-requires-clause-fits g c =
    let low = home_low c.args.sizes.blocks (g.D.SectorDisk.sector_count c.args.disk.now) c.args.home (subst (λ n. c.args.home < n) c.requires.pool.homes c.requires.home) in
    omega (arith, low, c.stands_at.ensures.inside, c.requires.pool.sized.1)

pub returns : goal.returns
returns g c = subst (λ k. ReadsSectors g.D.SectorDisk k c.args.disk.now c.read_page.new.disk c.read_page.new.to c.read_page.result) c.stands_at.ensures.at c.read_page.ensures
