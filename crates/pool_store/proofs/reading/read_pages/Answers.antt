use Rattle.std.proofs.Common.{◌∙◌, true, refl, arith}
use Rattle.disk_model.specs.Moments.{Nothing}
use Rattle.sync_journal.proofs.Runs.{one_more}
use Rattle.pool_journal.proofs.Copied.{still_pool}
use Rattle.pool_store.proofs.{Looking.{looks_failed, looks_bad}, PageReads.{read_more, none_more, once_more, once_all, no_entries}}
use Rattle.pool_store.specs.declared.faults.OpenFault.TheVariants.{Device, BadLayout}
use Rattle.pool_store.proofs.reading.read_pages.Goals as goal

pub read_home-requires-clause-pool : goal.read_home-requires-clause-pool
read_home-requires-clause-pool g c = still_pool g.D.SectorDisk c.args.journal.now.sizes c.args.disk.now c.loop-home.disk c.loop-home.invariant.0.run.size c.requires.pool

pub loop-home-preserved : goal.loop-home-preserved
loop-home-preserved g c =
    let d = g.D.SectorDisk in
    let inv = c.loop-home.invariant in
    let r = c.in_ok-read_home.ensures in
    let taken = c.in_ok-take_page.ensures in (
      read_more d c.args.journal.now c.args.disk.now c.requires.rest c.loop-home.disk c.read_home.new.disk c.loop-home.home c.loop-home.entries.items inv.0 r.reads.run c.read_home.new.to r.read
          c.take_page.new.entries.items taken.taken r.reads.cause.calm r.asks,
      omega (arith, inv.1, taken.len),
      c.take_page.ensures.capacity ∙ inv.2,
    )

pub returns-in_err-read_home : goal.returns-in_err-read_home
returns-in_err-read_home g c =
    let d = g.D.SectorDisk in
    let journal = c.args.journal.now in
    let old = c.args.disk.now in
    let mid = c.loop-home.disk in
    let new = c.read_home.new.disk in
    let so_far = c.loop-home.invariant.0 in
    let r = c.in_err-read_home.ensures in
    let given = c.from_residual-in_err-read_home.ensures.1 in
    no_entries d journal c.args.pages old new
    (once_all journal c.loop-home.home c.args.pages (d.asked old) (d.asked new) c.loop-home-test.true (once_more journal c.loop-home.home (d.asked old) (d.asked mid) (d.asked new) so_far.once r.asks))
    Device _ given
    (looks_failed d _ old new (one_more d Nothing old mid new so_far.run r.reads.run) _ given (let failed = r.reads.cause.failed (refl {a = true}) in let calm = so_far.calm in omega (arith, failed, calm)))

pub returns-in_err-take_page : goal.returns-in_err-take_page
returns-in_err-take_page g c =
    let d = g.D.SectorDisk in
    let journal = c.args.journal.now in
    let old = c.args.disk.now in
    let mid = c.loop-home.disk in
    let new = c.read_home.new.disk in
    let home = c.loop-home.home in
    let so_far = c.loop-home.invariant.0 in
    let r = c.in_ok-read_home.ensures in
    let given = c.from_residual-in_err-take_page.ensures.1 in
    no_entries d journal c.args.pages old new
    (once_all journal home c.args.pages (d.asked old) (d.asked new) c.loop-home-test.true (once_more journal home (d.asked old) (d.asked mid) (d.asked new) so_far.once r.asks))
    BadLayout _ given
    (looks_bad d _ old new (one_more d Nothing old mid new so_far.run r.reads.run) _ given (r.reads.cause.calm ∙ so_far.calm)
    (none_more d journal old c.requires.rest mid new home c.loop-home.entries.items so_far r.reads.run c.read_home.new.to r.read c.args.pages c.loop-home-test.true c.in_err-take_page.ensures.none))
