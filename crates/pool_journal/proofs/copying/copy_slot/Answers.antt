use Rattle.std.proofs.Common.{◌≡◌, ◌<◌, ◌+◌, ◌-◌, ◌∙◌, ◌⊎◌, ⊎_elim, inl, inr, ap, subst, arith}
use Rattle.std.proofs.lemmas.Result.{on_ok_weaker}
use Rattle.disk_model.proofs.Naming.{once_wider}
use Rattle.pool_journal.proofs.Copied.{slot_below, home_inside, home_low}
use Rattle.pool_journal.specs.{Copying.{IsHomeOf, IsCopyOf}, Pools.{pool_home}}
use Rattle.sync_journal.{proofs.Runs.{of_more}, specs.Layout.{IsPageSector}}
use Rattle.pool_journal.proofs.copying.copy_slot.Goals as goal

pub copy_page-requires-clause-after : goal.copy_page-requires-clause-after
copy_page-requires-clause-after g c = (let low = slot_below c.args.sizes.blocks c.args.slot.second c.args.slot.place c.requires.inside in omega (arith, low, c.slot.ensures, c.home.ensures))

pub copy_page-requires-clause-room : goal.copy_page-requires-clause-room
copy_page-requires-clause-room g c =
    let below : c.args.number - 1 < c.args.sizes.homes = omega (arith, c.requires.home, c.if-number-gt0.true) in
    let inside = home_inside c.args.sizes.blocks (g.D.SectorDisk.sector_count c.args.disk.now) (c.args.number - 1) (subst (λ n. c.args.number - 1 < n) c.requires.pool.homes below) in
    omega (arith, inside, c.home.ensures)

pub copy_page-requires-clause-fits : goal.copy_page-requires-clause-fits
copy_page-requires-clause-fits g c =
    let below : c.args.number - 1 < c.args.sizes.homes = omega (arith, c.requires.home, c.if-number-gt0.true) in
    let low = home_low c.args.sizes.blocks (g.D.SectorDisk.sector_count c.args.disk.now) (c.args.number - 1) (subst (λ n. c.args.number - 1 < n) c.requires.pool.homes below) in
    omega (arith, low, c.home.ensures, c.requires.pool.sized.1)

pub returns-then-number-gt0 : goal.returns-then-number-gt0
returns-then-number-gt0 g c =
    let d = g.D.SectorDisk in
    let m = c.args.sizes.blocks in
    let old = c.args.disk.now in
    let new = c.copy_page.new.disk in
    let to = c.home.result in
    let from = c.slot.result in
    let number = c.args.number in
    let w = c.copy_page.ensures in
    let some = c.if-number-gt0.true in
    record {
      done = λ keeps. on_ok_weaker c.copy_page.result
          (λ copied h i is below. (let at : pool_home m h ≡ to = omega (arith, is, c.home.ensures) in ap (λ k. d.content new (k + i)) at ∙ copied i below ∙ ap (λ k. d.content old (k + i)) c.slot.ensures)) (w.done keeps);
      run = of_more d (IsPageSector to) (IsHomeOf m number) old new (λ k inside. (number - 1, omega (arith, some), (omega (arith, inside.0, c.home.ensures), omega (arith, inside.1, c.home.ensures)))) w.run;
      once = once_wider (λ k. IsPageSector from k ⊎ IsPageSector to k) (IsCopyOf m c.args.slot.second c.args.slot.place number) (d.asked old) (d.asked new)
          (λ k inside. (number - 1, omega (arith, some), ⊎_elim (λ slot. inl (omega (arith, slot.0, c.slot.ensures), omega (arith, slot.1, c.slot.ensures))) (λ home. inr (omega (arith, home.0, c.home.ensures), omega (arith, home.1, c.home.ensures))) inside)) w.once;
      failed = w.failed;
      calm = w.calm;
    }
