use Rattle.std.proofs.Common.{◌≡◌, ◌<◌, ◌+◌, ◌∙◌, Some, get_or, slice_get, refl, sym, ap, subst, arith, rules}
use Rattle.std.proofs.lemmas.Option.{slice_get-get_or}
use Rattle.disk_model.proofs.{Moments.{stays}, Naming.{once_none, once_wider}}
use Rattle.disk_model.specs.Stop.{Names, NamesOnce}
use Rattle.pool_growth.proofs.Placed.{once_more, run_more, held_more, stands_new, given_new}
use Rattle.pool_growth.specs.Putting.{new_at, IsPutSector, HoldsNewPages}
use Rattle.pool_journal.proofs.Copied.{home_inside, home_low}
use Rattle.pool_store.proofs.Ordered.{no_page}
use Rattle.sync_journal.{proofs.Causes.{asks_nothing, source_failed, device_failed, none_failed}, specs.{Layout.{IsPageSector}, Runs.{RunsOnDevice}, Source.{Asks}}}
use Rattle.pool_growth.proofs.placing.write_new_pages.Goals as goal

pub loop-i-init : goal.loop-i-init
loop-i-init g c = record {
  size = search rules;
  run = record { size = refl; kept = λ k. k; later = omega arith; touches = λ k. stays g.D.SectorDisk (IsPutSector c.args.journal.now c.args.directory.now c.args.pages.changes.now c.args.pages.fresh.now c.args.pages.count) c.args.disk.now };
  asks = asks_nothing g.S.PageSource c.args.source.now (g.met.S.PageSource.stays c.args.source.now);
  holds = λ keeps given i j below. absurd (omega (arith, below));
  device_calm = refl;
  source_calm = refl;
  once = once_none _ _ _ (λ k. refl);
}

pub page-requires : goal.page-requires
page-requires g c = c.loop-i.invariant.asks.still c.loop-i.i (c.requires.gives c.loop-i.i (omega (arith, c.loop-i-test.true)))

pub returns-in_err-page-clause-fills : goal.returns-in_err-page-clause-fills
returns-in_err-page-clause-fills g c =
    let journal = c.args.journal.now in
    let directory = c.args.directory.now in
    let changes = c.args.pages.changes.now in
    let fresh = c.args.pages.fresh.now in
    let count = c.args.pages.count in
    let i = c.loop-i.i in
    let inv = c.loop-i.invariant in
    let below : i < count = omega (arith, c.loop-i-test.true) in
    record {
      body = search rules;
      once = once_wider (IsPutSector journal directory changes fresh i) (IsPutSector journal directory changes fresh count) _ _ (λ k was. (was.0, omega (arith, was.1, below), was.2)) inv.once;
      takes = record {
        run = inv.run;
        asks = search rules;
        causes = source_failed _ _ _ _ _ c.from_residual.ensures.1 (let failed = c.in_err-page.ensures.cause.failed refl in let before = inv.source_calm in omega (arith, failed, before)) inv.device_calm;
      };
    }

pub trim-requires : goal.trim-requires
trim-requires g c = c.inside_then.ensures.most

pub home_then-home-requires-clause-on : goal.home_then-home-requires-clause-on
home_then-home-requires-clause-on g c = (c.args.journal.now.sizes.homes, omega (arith, c.requires.on.pool.homes), c.requires.changes)

pub home_then-home-requires-clause-there : goal.home_then-home-requires-clause-there
home_then-home-requires-clause-there g c =
    let fresh = c.args.pages.fresh.now in
    let i = c.loop-i.i in
    (c.requires.fresh.new i (get_or fresh i no_page) (slice_get-get_or fresh i no_page (omega (arith, c.loop-i-test.true, c.requires.few)))).1

pub stands_at-requires-clause-home : goal.stands_at-requires-clause-home
stands_at-requires-clause-home g c = home_low c.args.journal.now.sizes.blocks (g.D.SectorDisk.sector_count c.args.disk.now) c.home_then-home.result
    (subst (λ n. c.home_then-home.result < n) c.requires.on.pool.homes (c.home_then-home.ensures.inside c.args.journal.now.sizes.homes c.requires.changes))

pub write_page-requires-clause-room : goal.write_page-requires-clause-room
write_page-requires-clause-room g c =
    let inside = home_inside c.args.journal.now.sizes.blocks (g.D.SectorDisk.sector_count c.args.disk.now) c.home_then-home.result
    (subst (λ n. c.home_then-home.result < n) c.requires.on.pool.homes (c.home_then-home.ensures.inside c.args.journal.now.sizes.homes c.requires.changes)) in
    omega (arith, inside, c.stands_at.ensures.inside, c.loop-i.invariant.run.size)

pub write_page-requires-clause-fits : goal.write_page-requires-clause-fits
write_page-requires-clause-fits g c =
    let low = home_low c.args.journal.now.sizes.blocks (g.D.SectorDisk.sector_count c.args.disk.now) c.home_then-home.result
    (subst (λ n. c.home_then-home.result < n) c.requires.on.pool.homes (c.home_then-home.ensures.inside c.args.journal.now.sizes.homes c.requires.changes)) in
    omega (arith, low, c.stands_at.ensures.inside, c.requires.on.pool.sized.1)

pub returns-in_err-write_page-clause-fills : goal.returns-in_err-write_page-clause-fills
returns-in_err-write_page-clause-fills g c =
    let d = g.D.SectorDisk in
    let journal = c.args.journal.now in
    let directory = c.args.directory.now in
    let changes = c.args.pages.changes.now in
    let fresh = c.args.pages.fresh.now in
    let count = c.args.pages.count in
    let i = c.loop-i.i in
    let inv = c.loop-i.invariant in
    let below : i < count = omega (arith, c.loop-i-test.true) in
    let w = c.write_page.ensures in
    let old = c.args.disk.now in
    let mid = c.loop-i.disk in
    let new = c.write_page.new.disk in
    let are = c.requires.changes in
    let is : slice_get fresh i ≡ Some (get_or fresh i no_page) = slice_get-get_or fresh i no_page (omega (arith, below, c.requires.few)) in
    let at : c.stands_at.result ≡ new_at journal directory changes fresh i =
    stands_new journal directory changes fresh i (get_or fresh i no_page) is c.home_then-home.result c.stands_at.result c.home_then-home.ensures.home c.stands_at.ensures.at in
    let run : RunsOnDevice d (IsPageSector (new_at journal directory changes fresh i)) mid new = subst (λ k. RunsOnDevice d (IsPageSector k) mid new) at w.run in
    let once = once_more journal directory changes are fresh c.requires.fresh i (d.asked old) (d.asked mid) (d.asked new) (omega (arith, below, c.requires.few)) inv.once (subst (λ k. Names (IsPageSector k) (d.asked mid) (d.asked new)) at w.asks) in
    record {
      body = search rules;
      once = once_wider (IsPutSector journal directory changes fresh (i + 1)) (IsPutSector journal directory changes fresh count) _ _ (λ k was. (was.0, omega (arith, was.1, below), was.2)) once;
      takes = record {
        run = run_more journal directory changes are fresh c.requires.fresh count c.requires.few d i old mid new below run inv.run;
        asks = search rules;
        causes = device_failed _ _ _ _ _ c.from_residual-in_err-write_page.ensures.1 (let failed = c.in_err-write_page.ensures.failed refl in let before = inv.device_calm in omega (arith, failed, before))
            (c.in_ok-page.ensures.cause.calm ∙ inv.source_calm);
      };
    }

pub loop-i-preserved : goal.loop-i-preserved
loop-i-preserved g c =
    let d = g.D.SectorDisk in
    let journal = c.args.journal.now in
    let directory = c.args.directory.now in
    let changes = c.args.pages.changes.now in
    let fresh = c.args.pages.fresh.now in
    let count = c.args.pages.count in
    let i = c.loop-i.i in
    let inv = c.loop-i.invariant in
    let below : i < count = omega (arith, c.loop-i-test.true) in
    let w = c.write_page.ensures in
    let old = c.args.disk.now in
    let mid = c.loop-i.disk in
    let new = c.write_page.new.disk in
    let are = c.requires.changes in
    let is : slice_get fresh i ≡ Some (get_or fresh i no_page) = slice_get-get_or fresh i no_page (omega (arith, below, c.requires.few)) in
    let at : c.stands_at.result ≡ new_at journal directory changes fresh i =
    stands_new journal directory changes fresh i (get_or fresh i no_page) is c.home_then-home.result c.stands_at.result c.home_then-home.ensures.home c.stands_at.ensures.at in
    let run : RunsOnDevice d (IsPageSector (new_at journal directory changes fresh i)) mid new = subst (λ k. RunsOnDevice d (IsPageSector k) mid new) at w.run in
    let once = once_more journal directory changes are fresh c.requires.fresh i (d.asked old) (d.asked mid) (d.asked new) (omega (arith, below, c.requires.few)) inv.once (subst (λ k. Names (IsPageSector k) (d.asked mid) (d.asked new)) at w.asks) in
    let pages = g.S.PageSource.pages c.args.source.now in
    let asks : Asks g.S.PageSource c.args.source.now c.page.new.self = search rules in
    record {
      size = search rules;
      run = run_more journal directory changes are fresh c.requires.fresh count c.requires.few d i old mid new below run inv.run;
      asks = asks;
      holds = λ keeps given. held_more journal directory changes are fresh c.requires.fresh count c.requires.few d i old mid new below run pages c.trim.new.page
          (given_new journal directory changes fresh i (get_or fresh i no_page) is pages c.inside_then.result c.page.new.to c.trim.new.page c.inside_then.ensures.inside
          (c.in_ok-page.ensures.given given ∙ inv.asks.same (c.page.ensures.kept given) i) c.trim.ensures)
          keeps (inv.holds (w.run.kept keeps) (c.page.ensures.kept given)) (λ j small. ap (λ k. d.content new (k + j)) (sym at) ∙ c.in_ok-write_page.ensures.written keeps j small);
      device_calm = c.in_ok-write_page.ensures.calm ∙ inv.device_calm;
      source_calm = c.in_ok-page.ensures.cause.calm ∙ inv.source_calm;
      once = once;
    }

pub returns-clause-fills : goal.returns-clause-fills
returns-clause-fills g c =
    let d = g.D.SectorDisk in
    let journal = c.args.journal.now in
    let directory = c.args.directory.now in
    let changes = c.args.pages.changes.now in
    let fresh = c.args.pages.fresh.now in
    let count = c.args.pages.count in
    let inv = c.loop-i.invariant in
    let end : c.loop-i.i ≡ count = omega (arith, c.loop-i-test.false, c.loop-i.auto.i-end) in
    record {
      body = λ keeps given. subst (λ n. HoldsNewPages journal directory changes fresh (g.S.PageSource.pages c.args.source.now) n (d.content c.loop-i.disk)) end (inv.holds keeps given);
      once = subst (λ n. NamesOnce (IsPutSector journal directory changes fresh n) (d.asked c.args.disk.now) (d.asked c.loop-i.disk)) end inv.once;
      takes = record { run = inv.run; asks = inv.asks; causes = none_failed _ _ _ _ inv.device_calm inv.source_calm };
    }
