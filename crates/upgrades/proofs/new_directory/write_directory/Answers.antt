use Rattle.upgrades.proofs.Names.{◌≡◌, ◌+◌, ◌⊎◌, ◌∙◌, ℕ, refl, sym, ap, subst, arith, rules, once_apart, once_named, once_none, once_wider, stays, IsPageSector}
use Rattle.sync_journal.proofs.Runs.{of_more, one_more}
use Rattle.pool_journal.specs.Pools.{pool_home}
use Rattle.pool_store.specs.Format.{IsHomeSector, new_pages}
use Rattle.upgrades.{proofs.Tables.{directory_begun, directory_more}, specs.NewPool.{HoldsDirectory, files_in}}
use Rattle.upgrades.proofs.new_directory.write_directory.Goals as goal

pub write_page-requires-clause-room : goal.write_page-requires-clause-room
write_page-requires-clause-room g c = omega (arith, c.home-first.ensures, c.loop-page.invariant.run.size, c.requires.pool.homes, c.requires.homes, c.loop-page-test.true)

pub loop-page-init : goal.loop-page-init
loop-page-init g c =
    let d = g.D.SectorDisk in
    let old = c.args.disk.now in
    record {
      run = record { size = refl; kept = λ k. k; later = omega arith; touches = λ k. stays d (IsHomeSector c.args.sizes.blocks 0 new_pages) old };
      once = once_none (IsHomeSector c.args.sizes.blocks 0 0) _ _ (λ k. refl);
      calm = refl;
      holds = λ keeps. directory_begun c.args.sizes.blocks (files_in c.args.files.now) (d.content old);
    }

pub loop-page-preserved : goal.loop-page-preserved
loop-page-preserved g c =
    let d = g.D.SectorDisk in
    let inv = c.loop-page.invariant in
    let m = c.args.sizes.blocks in
    let q = c.loop-page.page in
    let below = c.loop-page-test.true in
    let w = c.write_page.ensures in
    let first = c.home-first.result in
    let at : first ≡ pool_home m q = c.home-first.ensures in
    let All = IsHomeSector m 0 new_pages in
    record {
      run = one_more d All c.args.disk.now c.loop-page.disk c.write_page.new.disk inv.run (of_more d (IsPageSector first) All c.loop-page.disk c.write_page.new.disk (λ k inside. (omega (arith, inside.0, at), omega (arith, inside.1, at, below))) w.run);
      once = once_apart (IsHomeSector m 0 q) (IsPageSector first) (IsHomeSector m 0 (q + 1)) _ _ _ (λ k here. (here.0, omega (arith, here.1))) (λ k inside. (omega (arith, inside.0, at), omega (arith, inside.1, at)))
          (λ k before now. omega (arith, before.1, now.0, at)) inv.once (once_named (IsPageSector first) (IsPageSector first) _ _ (λ k here. here) w.asks);
      calm = c.in_ok-write_page.ensures.calm ∙ inv.calm;
      holds = λ keeps. directory_more m (files_in c.args.files.now) q c.directory_page-bytes.result (d.content c.loop-page.disk) (d.content c.write_page.new.disk) c.directory_page-bytes.ensures
          (λ i less. ap (λ k. d.content c.write_page.new.disk (k + i)) (sym at) ∙ c.in_ok-write_page.ensures.written keeps i less)
          (subst (λ n. (k : ℕ) → IsPageSector n k ⊎ (d.content c.write_page.new.disk k ≡ d.content c.loop-page.disk k)) at (w.run.touches keeps).content) (inv.holds (w.run.kept keeps));
    }

pub returns-in_err-write_page : goal.returns-in_err-write_page
returns-in_err-write_page g c =
    let d = g.D.SectorDisk in
    let inv = c.loop-page.invariant in
    let m = c.args.sizes.blocks in
    let q = c.loop-page.page in
    let below = c.loop-page-test.true in
    let w = c.write_page.ensures in
    let first = c.home-first.result in
    let at : first ≡ pool_home m q = c.home-first.ensures in
    let All = IsHomeSector m 0 new_pages in
    let failed = c.in_err-write_page.ensures.failed refl in
    let calm = inv.calm in
    record {
      done = search rules;
      run = one_more d All c.args.disk.now c.loop-page.disk c.write_page.new.disk inv.run (of_more d (IsPageSector first) All c.loop-page.disk c.write_page.new.disk (λ k inside. (omega (arith, inside.0, at), omega (arith, inside.1, at, below))) w.run);
      once = once_apart (IsHomeSector m 0 q) (IsPageSector first) All _ _ _ (λ k here. (here.0, omega (arith, here.1, below))) (λ k inside. (omega (arith, inside.0, at), omega (arith, inside.1, at, below)))
          (λ k before now. omega (arith, before.1, now.0, at)) inv.once (once_named (IsPageSector first) (IsPageSector first) _ _ (λ k here. here) w.asks);
      failed = λ is. omega (arith, failed, calm);
      calm = search rules;
    }

pub returns : goal.returns
returns g c =
    let inv = c.loop-page.invariant in
    let m = c.args.sizes.blocks in
    let end : c.loop-page.page ≡ new_pages = omega (arith, c.loop-page-test.false, c.loop-page.auto.page-end) in
    record {
      done = λ keeps. subst (λ q. HoldsDirectory m (files_in c.args.files.now) q (g.D.SectorDisk.content c.loop-page.disk)) end (inv.holds keeps);
      run = inv.run;
      once = once_wider (IsHomeSector m 0 c.loop-page.page) (IsHomeSector m 0 new_pages) _ _ (λ k here. (here.0, omega (arith, here.1, end))) inv.once;
      failed = search rules;
      calm = inv.calm;
    }
