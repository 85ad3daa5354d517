use Rattle.sync_journal.proofs.{Copies.{CopiesPage, one_home, copied_more, copy_more, copy_all}, Names.{Ok, ◌+◌, arith, subst, ◌∙◌, rules}}
use Rattle.sync_journal.proofs.homes.copy_each.Goals as goal

pub returns-in_err-copy_page : goal.returns-in_err-copy_page
returns-in_err-copy_page g c =
    let d = g.D.SectorDisk in
    let n = c.loop-j.j in
    let homes = c.args.homes.now in
    let page = subst (λ h. CopiesPage d n h c.loop-j.disk c.copy_page.new.disk c.copy_page.result) c.from.ensures c.copy_page.ensures in
    let run = one_home d homes n c.args.disk.now c.loop-j.disk c.copy_page.new.disk c.loop-j-test.true c.loop-j.invariant.0 page.run in
    let once = copy_all homes (n + 1) (omega (arith, c.loop-j-test.true)) (d.asked c.args.disk.now) (d.asked c.copy_page.new.disk)
    (copy_more _ homes c.requires (d.asked c.args.disk.now) (d.asked c.loop-j.disk) (d.asked c.copy_page.new.disk) n c.loop-j-test.true c.loop-j.invariant.3 page.once) in
    search rules

pub loop-j-preserved : goal.loop-j-preserved
loop-j-preserved g c =
    let d = g.D.SectorDisk in
    let n = c.loop-j.j in
    let homes = c.args.homes.now in
    let inv = c.loop-j.invariant in
    let page = subst (λ h. CopiesPage d n h c.loop-j.disk c.copy_page.new.disk (Ok c.in_ok-copy_page.field-0)) c.from.ensures c.in_ok-copy_page.ensures in (
      one_home d homes n c.args.disk.now c.loop-j.disk c.copy_page.new.disk c.loop-j-test.true inv.0 page.run,
      λ keeps. copied_more _ homes c.requires d n c.args.disk.now c.loop-j.disk c.copy_page.new.disk c.loop-j-test.true
          (inv.0.touches (page.kept keeps)) (inv.1 (page.kept keeps)) (page.touches keeps) (page.done keeps),
      page.calm ∙ inv.2,
      copy_more _ homes c.requires (d.asked c.args.disk.now) (d.asked c.loop-j.disk) (d.asked c.copy_page.new.disk) n c.loop-j-test.true inv.3 page.once,
    )

pub returns : goal.returns
returns g c =
    let once = copy_all c.args.homes.now c.loop-j.j (omega arith) (g.D.SectorDisk.asked c.args.disk.now) (g.D.SectorDisk.asked c.loop-j.disk) c.loop-j.invariant.3 in
    search rules
